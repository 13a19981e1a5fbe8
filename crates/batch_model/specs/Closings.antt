-- Which events close a request without an answer.
use Rattle.std.specs.Prelude.{ℕ, Bool, false, ◌==◌}
use Rattle.journal_model.specs.declared.event.Event.{Event}
use Rattle.journal_model.specs.declared.event.Event.TheVariants.{Start, Take, Deploy, Refill}
use Rattle.journal_model.specs.declared.event.Event.TheVariants.{Built, Keep, Dup, Drop, Evict}
use Rattle.journal_model.specs.declared.event.Event.TheVariants.{Park, End, Back, Refuse, Want}
use Rattle.journal_model.specs.declared.event.Event.TheVariants.{Answer}

-- the event is `refuse i`
abbrev pub refuses : (i : ℕ) → Event → Bool
refuses i (Start j f t) = false
refuses i (Take c j) = false
refuses i (Deploy c k j n) = false
refuses i (Refill c h n) = false
refuses i (Built c k d) = false
refuses i (Keep k) = false
refuses i (Dup k) = false
refuses i (Drop k) = false
refuses i (Evict c) = false
refuses i (Park c) = false
refuses i (End c) = false
refuses i (Back n) = false
refuses i (Refuse j) = j == i
refuses i (Want j) = false
refuses i (Answer j c u) = false

-- the event is `want i`
abbrev pub wants : (i : ℕ) → Event → Bool
wants i (Start j f t) = false
wants i (Take c j) = false
wants i (Deploy c k j n) = false
wants i (Refill c h n) = false
wants i (Built c k d) = false
wants i (Keep k) = false
wants i (Dup k) = false
wants i (Drop k) = false
wants i (Evict c) = false
wants i (Park c) = false
wants i (End c) = false
wants i (Back n) = false
wants i (Refuse j) = false
wants i (Want j) = j == i
wants i (Answer j c u) = false
