-- What contracts see of the objects in memory.
use Rattle.std.specs.Prelude.{ℕ, List, Contains}
use Rattle.edge_streams.specs.Faults.{next_count}

-- which calls on an object are to fail, counted from 1, how many were made, and how many failed
pub record Plan : Type 0 where
  pub fails : List ℕ
  pub calls : ℕ
  pub faults : ℕ

-- the plan of an object that was never called
abbrev pub new_plan : List ℕ → Plan
new_plan fails = record { fails = fails; calls = 0; faults = 0 }

-- the next call is planned to fail
abbrev pub NextFails : Plan → Type 0
NextFails plan = Contains plan.fails (next_count plan.calls)

-- the plan after a call that didn't fail
abbrev pub after_call : Plan → Plan
after_call plan = record { fails = plan.fails; calls = next_count plan.calls; faults = plan.faults }

-- the plan after one more fault
abbrev pub after_fault : Plan → Plan
after_fault plan =
    record { fails = plan.fails; calls = plan.calls; faults = next_count plan.faults }

-- the plan after a call that failed
abbrev pub after_failed_call : Plan → Plan
after_failed_call plan = after_fault (after_call plan)

-- the plan with its count of faults begun anew
abbrev pub without_faults : Plan → Plan
without_faults plan = record { fails = plan.fails; calls = plan.calls; faults = 0 }

-- a source in memory: the bytes that are left to read, and the most that a call hands out
pub record SourceState : Type 0 where
  pub left : List ℕ
  pub piece : ℕ
  pub plan : Plan

-- a sink in memory: the bytes that were written, and the most that a call takes
pub record SinkState : Type 0 where
  pub written : List ℕ
  pub piece : ℕ
  pub plan : Plan
