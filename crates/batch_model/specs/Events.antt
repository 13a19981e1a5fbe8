-- What the events of a batch owe its lines and its plan, beside that they are legal.
use Rattle.std.specs.Prelude.{◌≡◌, ℕ, ◌+◌, ◌==◌, Bool, true, false, ◌&&◌, if◌then◌else◌}
use Rattle.std.specs.Prelude.{nat_le, nat_lt, List, [], ◌∷◌, ◌++◌, Option, None, Some, slice_get}
use Rattle.journal_model.specs.State.{numbered}
use Rattle.journal_model.specs.declared.answer.Answer.{Answer as AnswerLine}
use Rattle.journal_model.specs.declared.answer.End.{End as Ending}
use Rattle.journal_model.specs.declared.answer.End.TheVariants as ends
use Rattle.journal_model.specs.declared.event.Event.{Event}
use Rattle.journal_model.specs.declared.event.Event.TheVariants.{Start, Take, Deploy, Refill}
use Rattle.journal_model.specs.declared.event.Event.TheVariants.{Built, Keep, Dup, Drop, Evict}
use Rattle.journal_model.specs.declared.event.Event.TheVariants.{Park, End, Back, Refuse, Want}
use Rattle.journal_model.specs.declared.event.Event.TheVariants.{Answer}
use Rattle.layer_model.specs.Layers.{IsPlace, IsStep}
use Rattle.machine_model.specs.Machine.{Machine, written_count}
use Rattle.plan_model.specs.Outline.{Outline}
use Rattle.plan_model.specs.declared.layer.PlanLayer.{PlanLayer}
use Rattle.plan_model.specs.declared.numbers.Numbers.{Numbers}

-- ---- contexts that are parked

abbrev pub is_ok : Ending → Bool
is_ok ends.Ok = true
is_ok (ends.Halt code) = false
is_ok (ends.Fault cause pc tval) = false
is_ok ends.Budget = false
is_ok (ends.NoLayer k why) = false
is_ok ends.Frames = false
is_ok ends.Memory = false

abbrev pub ended_ok : Option AnswerLine → Bool
ended_ok None = false
ended_ok (Some answer) = is_ok answer.end

-- the line of request i says `ok`
abbrev pub ok_in : List AnswerLine → (i : ℕ) → Bool
ok_in answers i = ended_ok (numbered answers i)

-- A context that answered request i after u others is to be parked: the request ended with `ok`,
-- there is room for idle contexts, and the context may be used again.
abbrev pub is_to_park : Numbers → (ok : ℕ → Bool) → (i u : ℕ) → Bool
is_to_park numbers ok i u = ok i && nat_le 1 numbers.idle && nat_lt (u + 1) numbers.uses

-- Whether context c is parked or ended by the first of these events that does either to it; none
-- where none does.
unfoldable pub is_parked_by : (c : ℕ) → List Event → Option Bool
is_parked_by c [] = None
is_parked_by c (Start i f t ∷ es) = is_parked_by c es
is_parked_by c (Take d i ∷ es) = is_parked_by c es
is_parked_by c (Deploy d k i n ∷ es) = is_parked_by c es
is_parked_by c (Refill d h n ∷ es) = is_parked_by c es
is_parked_by c (Built d k n ∷ es) = is_parked_by c es
is_parked_by c (Keep k ∷ es) = is_parked_by c es
is_parked_by c (Dup k ∷ es) = is_parked_by c es
is_parked_by c (Drop k ∷ es) = is_parked_by c es
is_parked_by c (Evict d ∷ es) = is_parked_by c es
is_parked_by c (Park d ∷ es) = if d == c then Some true else is_parked_by c es
is_parked_by c (End d ∷ es) = if d == c then Some false else is_parked_by c es
is_parked_by c (Back n ∷ es) = is_parked_by c es
is_parked_by c (Refuse i ∷ es) = is_parked_by c es
is_parked_by c (Want i ∷ es) = is_parked_by c es
is_parked_by c (Answer i d u ∷ es) = is_parked_by c es

-- Each context that answered is then parked where it is to be, and ended where it isn't. In a legal
-- journal the one or the other comes directly after the answer, with an `evict` between at most.
abbrev pub ParksRightly : Numbers → (ok : ℕ → Bool) → List Event → Type 0
ParksRightly numbers ok [] = Unit {0}
ParksRightly numbers ok (Start i f t ∷ es) = ParksRightly numbers ok es
ParksRightly numbers ok (Take c i ∷ es) = ParksRightly numbers ok es
ParksRightly numbers ok (Deploy c k i n ∷ es) = ParksRightly numbers ok es
ParksRightly numbers ok (Refill c h n ∷ es) = ParksRightly numbers ok es
ParksRightly numbers ok (Built c k d ∷ es) = ParksRightly numbers ok es
ParksRightly numbers ok (Keep k ∷ es) = ParksRightly numbers ok es
ParksRightly numbers ok (Dup k ∷ es) = ParksRightly numbers ok es
ParksRightly numbers ok (Drop k ∷ es) = ParksRightly numbers ok es
ParksRightly numbers ok (Evict c ∷ es) = ParksRightly numbers ok es
ParksRightly numbers ok (Park c ∷ es) = ParksRightly numbers ok es
ParksRightly numbers ok (End c ∷ es) = ParksRightly numbers ok es
ParksRightly numbers ok (Back n ∷ es) = ParksRightly numbers ok es
ParksRightly numbers ok (Refuse i ∷ es) = ParksRightly numbers ok es
ParksRightly numbers ok (Want i ∷ es) = ParksRightly numbers ok es
ParksRightly numbers ok (Answer i c u ∷ es) =
    (is_parked_by c es ≡ Some (is_to_park numbers ok i u)) × ParksRightly numbers ok es

-- The same of a journal as far as it goes, with the lines that there are: whatever lines come.
abbrev pub ParksSoFar : Numbers → List AnswerLine → List Event → Type 0
ParksSoFar numbers answers events =
    (more : List AnswerLine) → ParksRightly numbers (ok_in (answers ++ more)) events

-- ---- layers that are built

-- the run of the layer of the number wrote so many pages on its way to the trigger
pub record IsBuilt (plan : Outline) (number pages : ℕ) : Type 0 where
  pub layer : PlanLayer
  pub layer_is : slice_get plan.layers number ≡ Some layer
  pub below : Machine
  pub place : IsPlace plan layer.start layer.below below
  pub after : Machine
  pub step : IsStep plan number below after
  pub pages_are : pages ≡ written_count step.reached

-- each layer that was built was built with the number of pages that its run wrote
abbrev pub BuildsRightly : Outline → List Event → Type 0
BuildsRightly plan [] = Unit {0}
BuildsRightly plan (Start i f t ∷ es) = BuildsRightly plan es
BuildsRightly plan (Take c i ∷ es) = BuildsRightly plan es
BuildsRightly plan (Deploy c k i n ∷ es) = BuildsRightly plan es
BuildsRightly plan (Refill c h n ∷ es) = BuildsRightly plan es
BuildsRightly plan (Built c k d ∷ es) = IsBuilt plan k d × BuildsRightly plan es
BuildsRightly plan (Keep k ∷ es) = BuildsRightly plan es
BuildsRightly plan (Dup k ∷ es) = BuildsRightly plan es
BuildsRightly plan (Drop k ∷ es) = BuildsRightly plan es
BuildsRightly plan (Evict c ∷ es) = BuildsRightly plan es
BuildsRightly plan (Park c ∷ es) = BuildsRightly plan es
BuildsRightly plan (End c ∷ es) = BuildsRightly plan es
BuildsRightly plan (Back n ∷ es) = BuildsRightly plan es
BuildsRightly plan (Refuse i ∷ es) = BuildsRightly plan es
BuildsRightly plan (Want i ∷ es) = BuildsRightly plan es
BuildsRightly plan (Answer i c u ∷ es) = BuildsRightly plan es
