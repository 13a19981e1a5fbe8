use Rattle.std.proofs.Common.{◌≡◌, drop}
use Rattle.toml.specs.View.{items_view}
use Rattle.plan_tables.specs.Values.{are_tables}
use Rattle.plan_tables.proofs.members.are_tables.Given as goal

abbrev pub invariant-values : goal.invariant-values
invariant-values l =
    are_tables (items_view (drop l.value-index l.values)) ≡ are_tables (items_view l.values)
