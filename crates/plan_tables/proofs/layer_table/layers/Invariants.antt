use Rattle.std.proofs.Common.{◌≡◌, ◌++◌, drop, map, List}
use Rattle.std.specs.List.{AllByRecursion}
use Rattle.toml.specs.View.{items_view}
use Rattle.toml.specs.declared.value.Value.{Value}
use Rattle.plan_tables.specs.Layers.{layer_at, IsSound}
use Rattle.plan_tables.specs.Tables.{layers_fault}
use Rattle.plan_tables.specs.Values.{tables_among}
use Rattle.plan_tables.specs.declared.layer_table.LayerText.{LayerText}
use Rattle.plan_tables.proofs.layer_table.layers.Given as goal

pub record IsRead (values rest : List Value) (all : List LayerText) : Type 0 where
  pub fault : layers_fault (tables_among (items_view rest))
      ≡ layers_fault (tables_among (items_view values))
  pub value : all ++ map layer_at (tables_among (items_view rest))
      ≡ map layer_at (tables_among (items_view values))
  pub sound : AllByRecursion IsSound all

abbrev pub invariant-tables : goal.invariant-tables
invariant-tables l = IsRead l.values (drop l.value-index l.values) l.all.items
