use Rattle.plan_tables.specs.Keys.{value_at}
use Rattle.toml.proofs.Views.{table_get}
use Rattle.plan_tables.proofs.members.value.Goals as goal

pub returns : goal.returns
unfolding value_at
returns c = rw (← c.text.ensures)
    (table_get c.get.result c.text.result.now c.args.table.now.entries c.get.ensures.value)
