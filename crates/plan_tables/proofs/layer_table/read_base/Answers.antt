use Rattle.plan_tables.specs.Layers.{base_fault, base_at}
use Rattle.plan_tables.proofs.layer_table.read_base.Goals as goal

pub returns-clause-fault : goal.returns-clause-fault
unfolding base_fault
returns-clause-fault c = rw (← c.value.ensures, ← c.value-2.ensures) c.base_of.ensures.fault

pub returns-clause-value : goal.returns-clause-value
unfolding base_at
returns-clause-value c = rw (← c.value.ensures, ← c.value-2.ensures) c.base_of.ensures.value
