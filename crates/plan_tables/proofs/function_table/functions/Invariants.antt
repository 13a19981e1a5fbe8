use Rattle.std.proofs.Common.{◌≡◌, ◌++◌, drop, map, List}
use Rattle.toml.specs.View.{items_view}
use Rattle.toml.specs.declared.value.Value.{Value}
use Rattle.plan_tables.specs.Functions.{texts}
use Rattle.plan_tables.specs.Tables.{functions_fault}
use Rattle.plan_tables.specs.Values.{tables_among}
use Rattle.plan_tables.specs.declared.function_table.FunctionText.{FunctionText}
use Rattle.plan_tables.proofs.function_table.functions.Given as goal

pub record IsRead (values rest : List Value) (all : List FunctionText) : Type 0 where
  pub fault : functions_fault (tables_among (items_view rest))
      ≡ functions_fault (tables_among (items_view values))
  pub value : all ++ map texts (tables_among (items_view rest))
      ≡ map texts (tables_among (items_view values))

abbrev pub invariant-tables : goal.invariant-tables
invariant-tables l = IsRead l.values (drop l.value-index l.values) l.all.items
