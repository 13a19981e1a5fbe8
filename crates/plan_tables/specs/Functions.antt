-- A function's table.
use Rattle.std.specs.Prelude.{[], ◌∷◌, Option}
use Rattle.toml.specs.Data.{Members}
use Rattle.plan_tables.specs.Faults.{first_fault, unknown_fault}
use Rattle.plan_tables.specs.Keys.{function_keys}
use Rattle.plan_tables.specs.Values.{text_fault, text_at}
use Rattle.plan_tables.specs.declared.fault.PlanFault.{PlanFault}
use Rattle.plan_tables.specs.declared.function_table.FunctionText.{FunctionText}
use Rattle.plan_tables.specs.declared.key.Key.TheVariants as keys

unfoldable pub function_fault : Members → Option PlanFault
function_fault members = first_fault (
    unknown_fault function_keys members
    ∷ text_fault keys.Name members
    ∷ text_fault keys.Layer members
    ∷ [])

unfoldable pub texts : Members → FunctionText
texts members = record {
  name = text_at keys.Name members;
  layer = text_at keys.Layer members;
}
