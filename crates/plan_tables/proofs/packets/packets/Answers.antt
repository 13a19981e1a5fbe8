use Rattle.std.proofs.Common.{refl, ◌∙◌}
use Rattle.plan_tables.specs.Layers.{packets_fault, packets_at}
use Rattle.plan_tables.proofs.packets.packets.Goals as goal

pub returns-in-None-clause-fault : goal.returns-in-None-clause-fault
unfolding packets_fault
returns-in-None-clause-fault c = rw (← (rw c.in-None.is at c.value.ensures)) refl

pub returns-in-Some-clause-fault : goal.returns-in-Some-clause-fault
unfolding packets_fault
returns-in-Some-clause-fault c =
    rw (← (rw c.in-Some.is at c.value.ensures)) c.packets_of.ensures.fault

pub returns-in-Some-clause-value : goal.returns-in-Some-clause-value
unfolding packets_at
returns-in-Some-clause-value c =
    rw (← (rw c.in-Some.is at c.value.ensures)) c.packets_of.ensures.value

pub returns-in-None-clause-value : goal.returns-in-None-clause-value
unfolding packets_at
returns-in-None-clause-value c =
    rw (← (rw c.in-None.is at c.value.ensures)) (c.from_vec.ensures ∙ c.new.ensures.items)
