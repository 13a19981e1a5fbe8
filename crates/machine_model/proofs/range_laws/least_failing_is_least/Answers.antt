use Rattle.machine_model.proofs.Ranges as ranges
use Rattle.machine_model.proofs.range_laws.least_failing_is_least.Goals as goal

pub returns-clause-found : goal.returns-clause-found
returns-clause-found c = ranges.least_failing-least

pub returns-clause-passes : goal.returns-clause-passes
returns-clause-passes c = ranges.least_failing-passes

pub returns-clause-round : goal.returns-clause-round
returns-clause-round c = ranges.least_failing-round
