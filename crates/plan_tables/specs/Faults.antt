-- The first of faults, and what a step tells of one.
use Rattle.std.specs.Prelude.{◌≡◌, ◌≢◌, List, [], ◌∷◌, Option, Some, None, option_map}
use Rattle.std.specs.Prelude.{Result, Ok, Err}
use Rattle.toml.specs.Data.{Members}
use Rattle.plan_tables.specs.Keys.{first_other}
use Rattle.plan_tables.specs.declared.fault.PlanFault.{PlanFault}
use Rattle.plan_tables.specs.declared.fault.PlanFault.TheVariants as faults
use Rattle.plan_tables.specs.declared.key.Key.{Key}

-- the first that there is
abbrev pub first_fault : List (Option PlanFault) → Option PlanFault
first_fault [] = None
first_fault (None ∷ rest) = first_fault rest
first_fault (Some fault ∷ rest) = Some fault

-- a table has a key that is none of these
unfoldable pub unknown_fault : List Key → Members → Option PlanFault
unknown_fault known members = option_map (λ text. faults.Unknown text) (first_other known members)

-- A step is done where there is no fault, and tells the fault where there is one; for want of
-- memory it may tell that.
abbrev pub Tells : {T : Type 0} → Option PlanFault → Result T PlanFault → Type 0
Tells fault (Ok done) = fault ≡ None
Tells fault (Err told) = told ≢ faults.Memory → fault ≡ Some told
