-- What a claim tells, which may be pinned.
use Rattle.std.specs.Prelude.{◌≡◌, ℕ, ◌-◌, Bool, true, false, if◌then◌else◌, Option, None, Some}
use Rattle.std.proofs.Common.{refl}
use Rattle.space_api.specs.Holding.{Pin}

-- a pinned claim keeps a stake of 1
abbrev pub stake_of : (pinned : Bool) → (stake : ℕ) → ℕ
stake_of pinned stake = if pinned then 1 else stake

-- what a pin keeps of a claim
abbrev pub pin_of : (pinned ready : Bool) → (stake : ℕ) → Option Pin
pin_of pinned ready stake =
    if pinned then Some (record { moved = stake - 1; ready = ready }) else None

-- what is finished may run unless it is pinned
abbrev pub may_run : (pinned finished : Bool) → Bool
may_run pinned finished = if pinned then false else finished

-- what may run isn't pinned
pub running_is_loose : (pinned finished : Bool) (stake : ℕ) → may_run pinned finished ≡ true
    → pin_of pinned finished stake ≡ None
running_is_loose true finished stake e = cc
running_is_loose false finished stake e = refl
