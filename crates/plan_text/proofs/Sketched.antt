-- A sketch from what its parts tell.
use Rattle.std.proofs.Common.{◌≡◌, ◌≢◌, ℕ, ◌+◌, List, [], length, refl, sym, ap, subst, ◌∙◌}
use Rattle.std.proofs.Common.{arith, cond, Bool, true, false}
use Rattle.std.proofs.Common.{Option, Some, None, IfSome, Result, Ok, Err}
use Rattle.std.proofs.lemmas.Option.{none-some}
use Rattle.image_model.specs.Layout.{Layout}
use Rattle.plan_model.specs.Outline.{AreLayers}
use Rattle.plan_model.specs.declared.function.PlanFunction.{PlanFunction}
use Rattle.plan_model.specs.declared.layer.PlanLayer.{PlanLayer}
use Rattle.plan_model.specs.declared.numbers.Numbers.{Numbers}
use Rattle.plan_tables.specs.Tables.{Tables, tables_unless, tables_of, tables_said, AreSound}
use Rattle.plan_tables.specs.Tables.{each_table_fault}
use Rattle.plan_tables.specs.declared.fault.PlanFault.{PlanFault}
use Rattle.plan_tables.specs.declared.fault.PlanFault.TheVariants as faults
use Rattle.plan_tables.specs.declared.function_table.FunctionText.{FunctionText}
use Rattle.plan_tables.specs.declared.layer_table.LayerText.{LayerText}
use Rattle.plan_text.proofs.Placed.{layers_placed, functions_placed}
use Rattle.plan_text.proofs.Started.{Contents}
use Rattle.plan_text.specs.Images.{starts_of, no_totals}
use Rattle.plan_text.specs.Placing.{names_fault, below_fault, placed_layers, placed_functions}
use Rattle.plan_text.specs.Placing.{image_names}
use Rattle.plan_text.specs.PlanText.{sketch, sketch_of, sketch_fault, sketch_at}
use Rattle.plan_text.specs.PlanText.{Sketch, plan, outline_of}
use Rattle.plan_text.specs.Sound.{IsSoundSketch}
use Rattle.toml.specs.Data.{Members}

-- ---- from what the tables say

unless_ok : (fault : Option PlanFault) (t u : Tables) → tables_unless fault t ≡ Ok u
    → (fault ≡ None) × (t ≡ u)
unless_ok None t u h = (refl, cc)
unless_ok (Some fault) t u h = absurd (cc)

unless_err : (fault : Option PlanFault) (t : Tables) (f : PlanFault)
    → tables_unless fault t ≡ Err f → fault ≡ Some f
unless_err None t f h = absurd (cc)
unless_err (Some fault) t f h = cc

refused_each : (m : Members) (f : PlanFault) → each_table_fault m ≡ Some f
    → sketch_of (Some m) ≡ Err f
unfolding sketch_fault
refused_each m f each = rw each refl

pub refused_tables : (o : Option Members) (f : PlanFault) → tables_of o ≡ Err f
    → sketch_of o ≡ Err f
refused_tables None f h = cc
refused_tables (Some m) f h =
    refused_each m f (unless_err (each_table_fault m) (tables_said m) f h)

-- where the tables are right, what they say of each other
names_at : (m : Members) (f : PlanFault) → each_table_fault m ≡ None
    → names_fault (tables_said m).layers (tables_said m).functions ≡ Some f
    → sketch_of (Some m) ≡ Err f
unfolding sketch_fault tables_said
names_at m f each names = rw (each, names) refl

below_at : (m : Members) (f : PlanFault) → each_table_fault m ≡ None
    → names_fault (tables_said m).layers (tables_said m).functions ≡ None
    → below_fault (tables_said m).layers ≡ Some f → sketch_of (Some m) ≡ Err f
unfolding sketch_fault tables_said
below_at m f each names below = rw (each, names, below) refl

-- the tables fit each other
pub record AreFit (t : Tables) (ls : List PlanLayer) (fs : List PlanFunction) : Type 0 where
  pub names : names_fault t.layers t.functions ≡ None
  pub below : below_fault t.layers ≡ None
  pub layers : placed_layers [] 0 t.layers ≡ Some ls
  pub functions : placed_functions t.layers t.functions ≡ Some fs

abbrev pub sketch_with : Tables → List PlanLayer → List PlanFunction → Sketch
sketch_with t ls fs = record {
  numbers = t.numbers;
  layers = ls;
  functions = fs;
  images = image_names t.layers;
}

fit_at : (m : Members) (ls : List PlanLayer) (fs : List PlanFunction) → each_table_fault m ≡ None
    → AreFit (tables_said m) ls fs → sketch_of (Some m) ≡ Ok (sketch_with (tables_said m) ls fs)
unfolding sketch_fault sketch_at tables_said
fit_at m ls fs each fit = rw (each, fit.names, fit.below, fit.layers, fit.functions) refl

pub refused_names : (o : Option Members) (t : Tables) (f : PlanFault) → tables_of o ≡ Ok t
    → names_fault t.layers t.functions ≡ Some f → sketch_of o ≡ Err f
refused_names None t f h names = absurd (cc)
refused_names (Some m) t f h names =
    let (each, same) = unless_ok (each_table_fault m) (tables_said m) t h in
    let P : Tables → Type 0 = λ u. names_fault u.layers u.functions ≡ Some f in
    names_at m f each (subst P (sym same) names)

pub refused_below : (o : Option Members) (t : Tables) (f : PlanFault) → tables_of o ≡ Ok t
    → names_fault t.layers t.functions ≡ None → below_fault t.layers ≡ Some f
    → sketch_of o ≡ Err f
refused_below None t f h names below = absurd (cc)
refused_below (Some m) t f h names below =
    let (each, same) = unless_ok (each_table_fault m) (tables_said m) t h in
    let P : Tables → Type 0 = λ u. names_fault u.layers u.functions ≡ None in
    let Q : Tables → Type 0 = λ u. below_fault u.layers ≡ Some f in
    below_at m f each (subst P (sym same) names) (subst Q (sym same) below)

pub sketch_made : (o : Option Members) (t : Tables) (ls : List PlanLayer)
    (fs : List PlanFunction) → tables_of o ≡ Ok t → AreFit t ls fs
    → sketch_of o ≡ Ok (sketch_with t ls fs)
sketch_made None t ls fs h fit = absurd (cc)
sketch_made (Some m) t ls fs h fit =
    let (each, same) = unless_ok (each_table_fault m) (tables_said m) t h in
    let P : Tables → Type 0 =
    λ u. AreFit u ls fs → sketch_of (Some m) ≡ Ok (sketch_with u ls fs) in
    subst P same (fit_at m ls fs each) fit

-- no text is refused for a file
no_file : (right : Bool) (fault : PlanFault) → fault ≢ faults.File
    → cond right None (Some fault) ≢ Some faults.File
no_file true fault other = λ e. cc
no_file false fault other = λ e. other (cc)

pub names_no_file : (ls : List LayerText) (fs : List FunctionText)
    → names_fault ls fs ≢ Some faults.File
unfolding names_fault
names_no_file ls fs = no_file _ faults.Name (λ e. cc)

pub below_no_file : (ls : List LayerText) → below_fault ls ≢ Some faults.File
unfolding below_fault
below_no_file ls = no_file _ faults.Below (λ e. cc)

zero_plus : (n : ℕ) → 0 + n ≡ n
zero_plus n = omega arith

no_layers : AreLayers [] 0
no_layers number l found = absurd (none-some l found)

pub told_no_file : {T : Type 0} (o : Option PlanFault) (f : PlanFault) → o ≢ Some faults.File
    → (f ≢ faults.Memory → o ≡ Some f)
    → ◌≡◌ {A = Result T PlanFault} (Err f) (Err faults.File) → ⊥
told_no_file o f other told e =
    let same : f ≡ faults.File = cc in other (told (λ memory. cc) ∙ ap Some same)

-- what is made of sound tables is sound
pub sound_sketch : (n : Numbers) (ls : List LayerText) (fs : List FunctionText)
    (placed : List PlanLayer) (known : List PlanFunction) → AreSound n ls fs
    → placed_layers [] 0 ls ≡ Some placed → placed_functions ls fs ≡ Some known
    → IsSoundSketch n placed known (length (image_names ls))
sound_sketch n ls fs placed known sound made named =
    let (are, count) = layers_placed ls [] 0 placed sound.layers no_layers made in
    let (below, number) = functions_placed ls fs known named in
    let same : length placed ≡ length ls = count ∙ zero_plus (length ls) in
    let few = sound.layer_count in
    let some = sound.function_count in
    record {
      numbers = sound.numbers;
      layer_count = (omega (arith, few.0, count), omega (arith, few.1, count));
      layers = rw (zero_plus (length (image_names ls))) at are;
      function_count = (omega (arith, some.0, number), omega (arith, some.1, number));
      functions = rw same below;
    }

-- ---- the plan of a sketch

pub plan_made : (files : Contents) (bytes : List ℕ) (s : Sketch) (starts : List Layout)
    → sketch bytes ≡ Ok s
    → IfSome files (λ file_of. starts_of file_of s.numbers.stack_bytes s.images no_totals
    ≡ Ok starts)
    → IfSome files (λ file_of. plan bytes file_of ≡ Ok (outline_of s starts))
plan_made None bytes s starts is made = tt
plan_made (Some file_of) bytes s starts is made = rw (is, made) refl

pub plan_stopped : (files : Contents) (bytes : List ℕ) (s : Sketch) (fault : PlanFault)
    → sketch bytes ≡ Ok s
    → IfSome files (λ file_of. starts_of file_of s.numbers.stack_bytes s.images no_totals
    ≡ Err fault)
    → IfSome files (λ file_of. plan bytes file_of ≡ Err fault)
plan_stopped None bytes s fault is made = tt
plan_stopped (Some file_of) bytes s fault is made = rw (is, made) refl

pub plan_refused : (files : Contents) (bytes : List ℕ) (fault : PlanFault) → sketch bytes
    ≡ Err fault
    → IfSome files (λ file_of. plan bytes file_of ≡ Err fault)
plan_refused None bytes fault is = tt
plan_refused (Some file_of) bytes fault is = rw is refl
