-- Where no frames are taken, a pin changes nothing.
use Rattle.std.proofs.Common.{◌≡◌, Bool, false, subst}
use Rattle.space_api.specs.Holding.{IfTaken}

pub untaken : (takes : Bool) (so same : Type 0) → takes ≡ false → IfTaken takes so same → same
untaken takes so same is h = subst (λ b. IfTaken b so same) is h
