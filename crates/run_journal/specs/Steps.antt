-- What a step over an event says.
use Rattle.std.specs.Prelude.{◌≡◌, Bool, true, false, Option, None, Some, Result, Ok, Err}
use Rattle.journal_model.specs.State.{State}
use Rattle.machine_model.specs.declared.packet.Memory.{Memory}

-- the event may stand where it is true, and then leads to the new state; where it may not, and
-- where memory ran out, nothing changes
abbrev pub Steps : Result Bool Memory → (old new : State) → (next : Option State) → Type 0
Steps (Ok true) old new next = next ≡ Some new
Steps (Ok false) old new next = (next ≡ None) × (new ≡ old)
Steps (Err e) old new next = new ≡ old
