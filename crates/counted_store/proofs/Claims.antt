-- What is known of a claim by what it tells.
use Rattle.std.proofs.Common.{◌≡◌, ℕ, ◌-◌, Bool, true, false, Option, None, Some, refl}
use Rattle.space_api.specs.Holding.{Pin}
use Rattle.counted_store.specs.Claims.{stake_of, pin_of, may_run}

pub running_claim : (pinned finished : Bool) → may_run pinned finished ≡ true
    → (pinned ≡ false) × (finished ≡ true)
running_claim true finished e = cc
running_claim false finished e = (refl, e)

pub loose_claim : (pinned ready : Bool) (stake : ℕ) → pin_of pinned ready stake ≡ None
    → pinned ≡ false
loose_claim true ready stake e = cc
loose_claim false ready stake e = refl

pub pinned_claim : (pinned ready : Bool) (stake : ℕ) (pin : Pin)
    → pin_of pinned ready stake ≡ Some pin
    → (pinned ≡ true) × (pin ≡ record { moved = stake - 1; ready = ready })
pinned_claim true ready stake pin e = (refl, cc)
pinned_claim false ready stake pin e = cc
