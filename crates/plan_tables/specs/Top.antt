-- The top table: the numbers, and lists of layers and functions.
use Rattle.std.specs.Prelude.{◌-◌, ◌^◌, [], ◌∷◌, Option, Some, None}
use Rattle.toml.specs.Data.{Members}
use Rattle.plan_model.specs.declared.numbers.Numbers.{Numbers}
use Rattle.plan_tables.specs.Faults.{first_fault, unknown_fault}
use Rattle.plan_tables.specs.Keys.{top_keys}
use Rattle.plan_tables.specs.Values.{number_fault, number_at, tables_fault}
use Rattle.plan_tables.specs.declared.fault.PlanFault.{PlanFault}
use Rattle.plan_tables.specs.declared.key.Key.TheVariants as keys
use Rattle.plan_tables.specs.declared.rule.NumberRule.{NumberRule}
use Rattle.plan_tables.specs.declared.top.Capacity.{Capacity}
use Rattle.plan_tables.specs.declared.top.Limits.{Limits}

-- ---- the ranges of the numbers

abbrev pub frames : NumberRule
frames = record { key = keys.Frames; lowest = 1; highest = 65536; step = 1; otherwise = None }

abbrev pub workers : NumberRule
workers = record { key = keys.Workers; lowest = 1; highest = 16; step = 1; otherwise = None }

abbrev pub idle : NumberRule
idle = record { key = keys.Idle; lowest = 0; highest = 256; step = 1; otherwise = None }

abbrev pub room : NumberRule
room = record { key = keys.Layers; lowest = 1; highest = 256; step = 1; otherwise = None }

abbrev pub uses : NumberRule
uses = record { key = keys.Uses; lowest = 1; highest = 64; step = 1; otherwise = Some 64 }

abbrev pub budget : NumberRule
budget = record {
  key = keys.Budget;
  lowest = 1;
  highest = 1000000000;
  step = 1;
  otherwise = Some 1000000;
}

abbrev pub prepare : NumberRule
prepare = record {
  key = keys.Prepare;
  lowest = 1;
  highest = 1000000000;
  step = 1;
  otherwise = Some 10000000;
}

abbrev pub stack_bytes : NumberRule
stack_bytes = record {
  key = keys.Stack;
  lowest = 4096;
  highest = 16777216;
  step = 4096;
  otherwise = Some 65536;
}

abbrev pub clock : NumberRule
clock = record {
  key = keys.Clock;
  lowest = 0;
  highest = 2 ^ 63 - 1;
  step = 1;
  otherwise = Some 0;
}

abbrev pub serve : NumberRule
serve = record { key = keys.Serve; lowest = 1; highest = 4096; step = 1; otherwise = Some 4096 }

-- ---- the faults, in their order

unfoldable pub capacity_fault : Members → Option PlanFault
capacity_fault members = first_fault (
    number_fault frames members
    ∷ number_fault workers members
    ∷ number_fault idle members
    ∷ number_fault room members
    ∷ number_fault uses members
    ∷ [])

unfoldable pub limits_fault : Members → Option PlanFault
limits_fault members = first_fault (
    number_fault budget members
    ∷ number_fault prepare members
    ∷ number_fault stack_bytes members
    ∷ number_fault clock members
    ∷ number_fault serve members
    ∷ [])

unfoldable pub top_fault : Members → Option PlanFault
top_fault members = first_fault (
    unknown_fault top_keys members
    ∷ capacity_fault members
    ∷ limits_fault members
    ∷ tables_fault keys.Layer members
    ∷ tables_fault keys.Function members
    ∷ [])

-- ---- the numbers

abbrev pub capacity_at : Members → Capacity
capacity_at members = record {
  frames = number_at frames members;
  workers = number_at workers members;
  idle = number_at idle members;
  room = number_at room members;
  uses = number_at uses members;
}

abbrev pub limits_at : Members → Limits
limits_at members = record {
  budget = number_at budget members;
  prepare = number_at prepare members;
  stack_bytes = number_at stack_bytes members;
  clock = number_at clock members;
  serve = number_at serve members;
}

abbrev pub numbers_at : Members → Numbers
numbers_at members = record {
  frames = number_at frames members;
  workers = number_at workers members;
  idle = number_at idle members;
  room = number_at room members;
  uses = number_at uses members;
  budget = number_at budget members;
  prepare = number_at prepare members;
  stack_bytes = number_at stack_bytes members;
  clock = number_at clock members;
  serve = number_at serve members;
}
