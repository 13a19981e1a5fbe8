use Rattle.plan_tables.specs.Values.{text_fault, text_at}
use Rattle.plan_tables.proofs.members.text.Goals as goal

pub returns-in-None-clause-fault : goal.returns-in-None-clause-fault
unfolding text_fault
returns-in-None-clause-fault c = λ named. rw (← (rw c.in-None.is at c.value.ensures))

pub returns-in-Some-clause-fault : goal.returns-in-Some-clause-fault
unfolding text_fault
returns-in-Some-clause-fault c =
    rw (← (rw c.in-Some.is at c.value.ensures)) c.text_of.ensures.fault

pub returns-in-Some-clause-value : goal.returns-in-Some-clause-value
unfolding text_at
returns-in-Some-clause-value c =
    rw (← (rw c.in-Some.is at c.value.ensures)) c.text_of.ensures.value
