-- What a context served, after an event.
use Rattle.std.specs.Prelude.{ℕ, ◌==◌, if◌then◌else◌, List, [], ◌∷◌, ◌++◌}
use Rattle.journal_model.specs.declared.event.Event.{Event}
use Rattle.journal_model.specs.declared.event.Event.TheVariants.{Start, Take, Deploy, Refill}
use Rattle.journal_model.specs.declared.event.Event.TheVariants.{Built, Keep, Dup, Drop, Evict}
use Rattle.journal_model.specs.declared.event.Event.TheVariants.{Park, End, Back, Refuse, Want}
use Rattle.journal_model.specs.declared.event.Event.TheVariants.{Answer}

-- the requests that context c answered, with that of the event where it is an answer by c
abbrev pub with_answer : (c : ℕ) → Event → List ℕ → List ℕ
with_answer c (Start i f t) xs = xs
with_answer c (Take d i) xs = xs
with_answer c (Deploy d k i n) xs = xs
with_answer c (Refill d h n) xs = xs
with_answer c (Built d k n) xs = xs
with_answer c (Keep k) xs = xs
with_answer c (Dup k) xs = xs
with_answer c (Drop k) xs = xs
with_answer c (Evict d) xs = xs
with_answer c (Park d) xs = xs
with_answer c (End d) xs = xs
with_answer c (Back n) xs = xs
with_answer c (Refuse i) xs = xs
with_answer c (Want i) xs = xs
with_answer c (Answer i d u) xs = if d == c then xs ++ i ∷ [] else xs
