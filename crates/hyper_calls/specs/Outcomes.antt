-- How a hypercall ends.
use Rattle.std.specs.Prelude.{◌≡◌, ℕ, ◌<◌, nat_le, Bool, true, ◌&&◌, List, [], ◌∷◌, length}
use Rattle.machine_model.specs.Hypercall.{Outcome, outcome}
use Rattle.machine_model.specs.Hypercall as model
use Rattle.machine_model.specs.Machine.{Machine, is_writable, range_passes}
use Rattle.space_api.specs.Frames.{need, LacksFrames}
use Rattle.hyper_calls.specs.declared.call_end.CallEnd.{CallEnd}
use Rattle.hyper_calls.specs.declared.call_end.CallEnd.TheVariants.{Done, Rest, Halt, BadCall}
use Rattle.hyper_calls.specs.declared.call_end.CallEnd.TheVariants.{NeedFrames, Memory}

-- the end leads from the one machine to the other as the hypercall does, and where it isn't done
-- the machine is as before
abbrev pub ComesTo : CallEnd → (old new : Machine) → Outcome → Type 0
ComesTo Done old new called = called ≡ model.Done new
ComesTo Rest old new called = called ≡ model.Rests new
ComesTo (Halt code) old new called = called ≡ model.Halts code new
ComesTo (BadCall number) old new called = (called ≡ model.Unknown number) × (new ≡ old)
ComesTo NeedFrames old new called = new ≡ old
ComesTo Memory old new called = new ≡ old

-- The hypercall would lead to a machine with more written pages, and that takes more frames than
-- there are spares.
pub record WantsFrames (takes : Bool) (spares clock : ℕ) (m : Machine) : Type 0 where
  pub after : Machine
  pub done : outcome m clock ≡ model.Done after
  pub lacks : LacksFrames takes spares m.written after.written

-- the next packet may be read to the address, and that needs more frames than there are spares
abbrev pub LacksRead : (takes : Bool) → (spares : ℕ) → Machine → (at room : ℕ) → List (List ℕ) →
    Type 0
LacksRead takes spares m at room [] = ⊥
LacksRead takes spares m at room (packet ∷ rest) =
    ((nat_le (length packet) room && range_passes (is_writable m) at (length packet)) ≡ true)
    × (spares < need takes m.written at (length packet))
