-- Frames that a step or a hypercall wants are those that its turn wants.
use Rattle.std.proofs.Common.{◌≡◌, ◌≢◌, ℕ, Bool, ◌⊎◌, inl, inr, sym, ap, subst}
use Rattle.hart.specs.Step as step
use Rattle.hyper_calls.specs.Outcomes as call
use Rattle.machine_model.specs.Hypercall.{Outcome, Done, Rests, Halts, Unknown, outcome}
use Rattle.machine_model.specs.Instruction.{Next, IsNext, Retires, Calls, Raises}
use Rattle.machine_model.specs.Machine.{Machine}
use Rattle.machine_model.specs.Run.{Goes, turn_of, turn_by}
use Rattle.machine_model.proofs.Runs.{one_next}
use Rattle.space_api.specs.Frames.{LacksFrames}
use Rattle.machine_run.specs.Frames.{WantsFrames}
use Rattle.machine_run.proofs.Turns.{retired_turn}

pub from_step : (takes : Bool) (spares clock : ℕ) (m : Machine) →
    step.WantsFrames takes spares m → WantsFrames takes spares clock m
from_step takes spares clock m w = record {
  after = w.after;
  goes = retired_turn clock m w.after w.retires;
  lacks = w.lacks;
}

pub from_call : (takes : Bool) (spares clock : ℕ) (m : Machine) → IsNext m Calls →
    call.WantsFrames takes spares clock m → WantsFrames takes spares clock m
from_call takes spares clock m calls w = record {
  after = w.after;
  goes = record { next = Calls; is_next = calls; turn_is = ap (turn_by m) (sym w.done) };
  lacks = w.lacks;
}

goes_to : (a b : Machine) → Goes a ≡ Goes b → a ≡ b
goes_to a b e = cc

done_by : (m after : Machine) (called : Outcome) → Goes after ≡ turn_by m called →
    called ≡ Done after
done_by m after (Done to) e = ap Done (sym (goes_to after to e))
done_by m after (Rests to) e = cc
done_by m after (Halts code to) e = cc
done_by m after (Unknown number) e = cc

-- a turn that wants frames is a step or a hypercall that does
abbrev IsOfBoth : (takes : Bool) (spares clock : ℕ) → Machine → Type 0
IsOfBoth takes spares clock m =
    step.WantsFrames takes spares m ⊎ (IsNext m Calls × call.WantsFrames takes spares clock m)

split_by : (takes : Bool) (spares clock : ℕ) (m after : Machine) (next : Next) → IsNext m next →
    Goes after ≡ turn_of m clock next → LacksFrames takes spares m.written after.written →
    IsOfBoth takes spares clock m
split_by takes spares clock m after (Retires to) n e l =
    let same : to ≡ after = sym (goes_to after to e) in
    inl (record { after = after; retires = subst (λ x. IsNext m (Retires x)) same n; lacks = l })
split_by takes spares clock m after Calls n e l =
    inr (n, record { after = after; done = done_by m after (outcome m clock) e; lacks = l })
split_by takes spares clock m after (Raises cause tval) n e l = cc

split : (takes : Bool) (spares clock : ℕ) (m : Machine) → WantsFrames takes spares clock m →
    IsOfBoth takes spares clock m
split takes spares clock m w =
    split_by takes spares clock m w.after w.goes.next w.goes.is_next w.goes.turn_is w.lacks

-- where the next instruction is no call and wants none, its turn wants none
pub none_wanted : {P : Type 0} (takes : Bool) (spares clock : ℕ) (m : Machine) (next : Next) →
    IsNext m next → next ≢ Calls → (step.WantsFrames takes spares m → ⊥) →
    WantsFrames takes spares clock m → P
none_wanted takes spares clock m next n other none w =
    elim (split takes spares clock m w) [
      | inl s ↦ absurd (none s)
      | inr both ↦ absurd (other (one_next m next Calls n both.0))
    ]

-- and where it is a call that the step left, its hypercall wants them
pub of_call : (takes : Bool) (spares clock : ℕ) (m : Machine) →
    (step.WantsFrames takes spares m → ⊥) → WantsFrames takes spares clock m →
    call.WantsFrames takes spares clock m
of_call takes spares clock m none w =
    elim (split takes spares clock m w) [
      | inl s ↦ absurd (none s)
      | inr both ↦ both.1
    ]
