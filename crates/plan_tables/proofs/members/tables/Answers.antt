use Rattle.plan_tables.specs.Values.{tables_fault, tables_at}
use Rattle.plan_tables.proofs.members.tables.Goals as goal

pub returns-in-None-clause-fault : goal.returns-in-None-clause-fault
unfolding tables_fault
returns-in-None-clause-fault c = rw (← (rw c.in-None.is at c.value.ensures))

pub returns-in-Some-clause-fault : goal.returns-in-Some-clause-fault
unfolding tables_fault
returns-in-Some-clause-fault c =
    rw (← (rw c.in-Some.is at c.value.ensures)) c.tables_of.ensures.fault

pub returns-in-Some-clause-value : goal.returns-in-Some-clause-value
unfolding tables_at
returns-in-Some-clause-value c =
    rw (← (rw c.in-Some.is at c.value.ensures)) c.tables_of.ensures.value
