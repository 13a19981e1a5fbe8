-- Which request and which context an event names.
use Rattle.std.specs.Prelude.{ℕ, Bool, false, ◌==◌}
use Rattle.journal_model.specs.declared.event.Event.{Event}
use Rattle.journal_model.specs.declared.event.Event.TheVariants.{Start, Take, Deploy, Refill}
use Rattle.journal_model.specs.declared.event.Event.TheVariants.{Built, Keep, Dup, Drop, Evict}
use Rattle.journal_model.specs.declared.event.Event.TheVariants.{Park, End, Back, Refuse, Want}
use Rattle.journal_model.specs.declared.event.Event.TheVariants.{Answer}

-- the event names request i
abbrev pub names_request : (i : ℕ) → Event → Bool
names_request i (Start j f t) = j == i
names_request i (Take c j) = j == i
names_request i (Deploy c k j n) = j == i
names_request i (Refill c h n) = false
names_request i (Built c k d) = false
names_request i (Keep k) = false
names_request i (Dup k) = false
names_request i (Drop k) = false
names_request i (Evict c) = false
names_request i (Park c) = false
names_request i (End c) = false
names_request i (Back n) = false
names_request i (Refuse j) = j == i
names_request i (Want j) = j == i
names_request i (Answer j c u) = j == i

-- the event names context c
abbrev pub names_context : (c : ℕ) → Event → Bool
names_context c (Start i f t) = false
names_context c (Take d i) = d == c
names_context c (Deploy d k i n) = d == c
names_context c (Refill d h n) = d == c
names_context c (Built d k w) = d == c
names_context c (Keep k) = false
names_context c (Dup k) = false
names_context c (Drop k) = false
names_context c (Evict d) = d == c
names_context c (Park d) = d == c
names_context c (End d) = d == c
names_context c (Back n) = false
names_context c (Refuse i) = false
names_context c (Want i) = false
names_context c (Answer i d u) = d == c
