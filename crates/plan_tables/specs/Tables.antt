-- What the tables of a plan's text say, each for itself; or the first fault of one.
use Rattle.std.specs.Prelude.{ℕ, nat_lt, if◌then◌else◌, List, [], ◌∷◌, length, map}
use Rattle.std.specs.Prelude.{Option, Some, None, Result, Ok, Err}
use Rattle.std.specs.List.{AllByRecursion}
use Rattle.std.specs.Str.{is_utf8}
use Rattle.toml.specs.Data.{Members}
use Rattle.toml.specs.Parse.{parse_document}
use Rattle.plan_model.specs.Outline.{AreNumbers, IsFrom}
use Rattle.plan_model.specs.declared.numbers.Numbers.{Numbers}
use Rattle.plan_tables.specs.Faults.{first_fault}
use Rattle.plan_tables.specs.Functions.{function_fault, texts}
use Rattle.plan_tables.specs.Layers.{layer_fault, layer_at, IsSound}
use Rattle.plan_tables.specs.Top.{top_fault, numbers_at}
use Rattle.plan_tables.specs.Values.{tables_at}
use Rattle.plan_tables.specs.declared.fault.PlanFault.{PlanFault}
use Rattle.plan_tables.specs.declared.fault.PlanFault.TheVariants as faults
use Rattle.plan_tables.specs.declared.function_table.FunctionText.{FunctionText}
use Rattle.plan_tables.specs.declared.key.Key.TheVariants as keys
use Rattle.plan_tables.specs.declared.layer_table.LayerText.{LayerText}

-- ---- the document

abbrev pub largest_text : ℕ
largest_text = 1048576

-- the top table of a text that isn't too long and is a document of TOML
unfoldable pub document : List ℕ → Option Members
document bytes =
    if nat_lt largest_text (length bytes) then None
    else if is_utf8 bytes then parse_document bytes else None

-- ---- lists of tables

unfoldable pub layers_fault : List Members → Option PlanFault
layers_fault tables = first_fault (map layer_fault tables)

unfoldable pub functions_fault : List Members → Option PlanFault
functions_fault tables = first_fault (map function_fault tables)

abbrev pub layers_at : Members → List LayerText
layers_at members = map layer_at (tables_at keys.Layer members)

abbrev pub functions_at : Members → List FunctionText
functions_at members = map texts (tables_at keys.Function members)

-- ---- all of them

unfoldable pub each_table_fault : Members → Option PlanFault
each_table_fault members = first_fault (
    top_fault members
    ∷ layers_fault (tables_at keys.Layer members)
    ∷ functions_fault (tables_at keys.Function members)
    ∷ [])

pub record Tables : Type 0 where
  pub numbers : Numbers
  pub layers : List LayerText
  pub functions : List FunctionText

unfoldable pub tables_said : Members → Tables
tables_said members = record {
  numbers = numbers_at members;
  layers = layers_at members;
  functions = functions_at members;
}

abbrev pub tables_unless : Option PlanFault → Tables → Result Tables PlanFault
tables_unless None tables = Ok tables
tables_unless (Some fault) tables = Err fault

abbrev pub tables_of : Option Members → Result Tables PlanFault
tables_of None = Err faults.Toml
tables_of (Some members) = tables_unless (each_table_fault members) (tables_said members)

-- what the tables of a text say, or the first fault
abbrev pub tables : List ℕ → Result Tables PlanFault
tables bytes = tables_of (document bytes)

-- what holds of tables without fault
pub record AreSound (n : Numbers) (ls : List LayerText) (fs : List FunctionText) : Type 0 where
  pub numbers : AreNumbers n
  pub layer_count : IsFrom 1 64 (length ls)
  pub layers : AllByRecursion IsSound ls
  pub function_count : IsFrom 1 64 (length fs)
