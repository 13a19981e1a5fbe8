-- Turns of the machine from steps: for whoever runs one after another.
use Rattle.std.proofs.Common.{ℕ, refl}
use Rattle.hart.specs.Step.{StepDoes}
use Rattle.hart.specs.declared.instruction.StepEnd.TheVariants.{Retired, Call, Trap}
use Rattle.machine_model.specs.Hypercall.{outcome}
use Rattle.machine_model.specs.Instruction.{Retires, Calls, Raises}
use Rattle.machine_model.specs.Machine.{Machine}
use Rattle.machine_model.specs.Run.{Goes, Stops, IsTurn, turn_by}
use Rattle.machine_model.specs.declared.stop.Stop.TheVariants.{Exception}

pub goes : (m after : Machine) (clock : ℕ) → StepDoes Retired m after →
    IsTurn m clock (Goes after)
goes m after clock h = record { next = Retires after; is_next = h; turn_is = refl }

pub stops : (m after : Machine) (clock cause tval : ℕ) → StepDoes (Trap cause tval) m after →
    IsTurn m clock (Stops (Exception cause m.pc tval) 0 m)
stops m after clock cause tval h =
    record { next = Raises cause tval; is_next = h; turn_is = refl }

pub calls : (m after : Machine) (clock : ℕ) → StepDoes Call m after →
    IsTurn m clock (turn_by m (outcome m clock))
calls m after clock h = record { next = Calls; is_next = h; turn_is = refl }
