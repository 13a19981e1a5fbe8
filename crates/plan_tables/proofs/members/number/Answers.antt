use Rattle.std.proofs.Common.{◌∙◌, ap}
use Rattle.plan_tables.specs.Values.{number_fault, number_at, rule_fault}
use Rattle.plan_tables.proofs.members.number.Goals as goal

pub returns-in-None-clause-fault : goal.returns-in-None-clause-fault
unfolding number_fault
returns-in-None-clause-fault c =
    c.missing.ensures.fault ∙ ap (rule_fault c.args.rule.now) (rw c.in-None.is at c.value.ensures)

pub returns-in-None-clause-value : goal.returns-in-None-clause-value
unfolding number_at
returns-in-None-clause-value c = rw (← (rw c.in-None.is at c.value.ensures)) c.missing.ensures.value

pub returns-in-Some-clause-fault : goal.returns-in-Some-clause-fault
unfolding number_fault
returns-in-Some-clause-fault c =
    c.number.ensures.fault ∙ ap (rule_fault c.args.rule.now) (rw c.in-Some.is at c.value.ensures)

pub returns-in-Some-clause-value : goal.returns-in-Some-clause-value
unfolding number_at
returns-in-Some-clause-value c = rw (← (rw c.in-Some.is at c.value.ensures)) c.number.ensures.value
