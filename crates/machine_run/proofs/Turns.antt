-- Turns of the machine from what its next instruction does.
use Rattle.std.proofs.Common.{◌≡◌, ℕ, refl, ap, subst}
use Rattle.machine_model.specs.Hypercall.{outcome, Unknown}
use Rattle.machine_model.specs.Instruction.{IsNext, Retires, Raises, Calls, environment_call}
use Rattle.machine_model.specs.Machine.{Machine}
use Rattle.machine_model.specs.Run.{Goes, Stops, IsTurn}
use Rattle.machine_model.specs.declared.stop.Stop.TheVariants.{Exception}

pub retired_turn : (clock : ℕ) (old new : Machine) → IsNext old (Retires new) →
    IsTurn old clock (Goes new)
retired_turn clock old new n = record { next = Retires new; is_next = n; turn_is = refl }

pub trapped_turn : (clock cause tval : ℕ) (old new : Machine) → IsNext old (Raises cause tval) →
    new ≡ old → IsTurn old clock (Stops (Exception cause old.pc tval) 0 new)
trapped_turn clock cause tval old new n same = record {
  next = Raises cause tval;
  is_next = n;
  turn_is = ap (Stops (Exception cause old.pc tval) 0) same;
}

pub unknown_turn : (clock number pc : ℕ) (old new : Machine) → old.pc ≡ pc → IsNext old Calls →
    outcome old clock ≡ Unknown number → new ≡ old →
    IsTurn old clock (Stops (Exception environment_call pc number) 0 new)
unknown_turn clock number pc old new at n unknown same =
    let here : IsTurn old clock (Stops (Exception environment_call old.pc number) 0 new) = record {
      next = Calls;
      is_next = n;
      turn_is = rw (unknown, same) refl;
    } in
    subst (λ a. IsTurn old clock (Stops (Exception environment_call a number) 0 new)) at here
