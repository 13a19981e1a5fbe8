-- What the tables of a text say, from what each tells.
use Rattle.std.proofs.Common.{◌≡◌, List, length, map, ap, sym, ◌∙◌, arith, refl}
use Rattle.std.proofs.Common.{Option, Some, None, Result, Ok, Err}
use Rattle.std.proofs.lemmas.List.{length-map}
use Rattle.std.specs.List.{AllByRecursion}
use Rattle.toml.specs.Data.{Members}
use Rattle.plan_model.specs.Outline.{AreNumbers, IsFrom}
use Rattle.plan_model.specs.declared.numbers.Numbers.{Numbers}
use Rattle.plan_tables.specs.Functions.{texts}
use Rattle.plan_tables.specs.Layers.{layer_at, IsSound}
use Rattle.plan_tables.specs.Tables.{layers_fault, functions_fault, each_table_fault}
use Rattle.plan_tables.specs.Tables.{layers_at, functions_at, tables_said, tables_of, AreSound}
use Rattle.plan_tables.specs.Top.{top_fault, numbers_at}
use Rattle.plan_tables.specs.Values.{tables_at}
use Rattle.plan_tables.specs.declared.fault.PlanFault.{PlanFault}
use Rattle.plan_tables.specs.declared.fault.PlanFault.TheVariants as faults
use Rattle.plan_tables.specs.declared.function_table.FunctionText.{FunctionText}
use Rattle.plan_tables.specs.declared.key.Key.TheVariants as keys
use Rattle.plan_tables.specs.declared.layer_table.LayerText.{LayerText}

pub refused_text : {T : Type 0} (o : Option Members) (f : PlanFault) → f ≡ faults.Toml
    → (◌≡◌ {A = Result T PlanFault} (Err f) (Err faults.Toml) → o ≡ None) → tables_of o ≡ Err f
refused_text o f is none = rw (none (ap Err is)) (ap Err (sym is))

pub refused_top : (m : Members) (f : PlanFault) → top_fault m ≡ Some f
    → tables_of (Some m) ≡ Err f
unfolding each_table_fault
refused_top m f top = rw top refl

pub refused_layers : (m : Members) (f : PlanFault) → top_fault m ≡ None
    → layers_fault (tables_at keys.Layer m) ≡ Some f → tables_of (Some m) ≡ Err f
unfolding each_table_fault
refused_layers m f top layers = rw (top, layers) refl

pub refused_functions : (m : Members) (f : PlanFault) → top_fault m ≡ None
    → layers_fault (tables_at keys.Layer m) ≡ None
    → functions_fault (tables_at keys.Function m) ≡ Some f → tables_of (Some m) ≡ Err f
unfolding each_table_fault
refused_functions m f top layers functions = rw (top, layers, functions) refl

pub tables_made : (m : Members) (n : Numbers) (ls : List LayerText) (fs : List FunctionText)
    → top_fault m ≡ None → layers_fault (tables_at keys.Layer m) ≡ None
    → functions_fault (tables_at keys.Function m) ≡ None → n ≡ numbers_at m → ls ≡ layers_at m
    → fs ≡ functions_at m
    → tables_of (Some m) ≡ Ok (record { numbers = n; layers = ls; functions = fs })
unfolding each_table_fault tables_said
tables_made m n ls fs top layers functions numbers said_layers said_functions =
    rw (top, layers, functions, numbers, said_layers, said_functions) refl

-- what is made of sound tables is sound
pub sound_tables : (n : Numbers) (tables functions : List Members) (ls : List LayerText)
    (fs : List FunctionText) → AreNumbers n → IsFrom 1 64 (length tables)
    → ls ≡ map layer_at tables → AllByRecursion IsSound ls → IsFrom 1 64 (length functions)
    → fs ≡ map texts functions → AreSound n ls fs
sound_tables n tables functions ls fs numbers few layers sound some these =
    let long : length ls ≡ length tables = ap length layers ∙ length-map tables layer_at in
    let more : length fs ≡ length functions = ap length these ∙ length-map functions texts in
    record {
      numbers = numbers;
      layer_count = (omega (arith, few.0, long), omega (arith, few.1, long));
      layers = sound;
      function_count = (omega (arith, some.0, more), omega (arith, some.1, more));
    }
