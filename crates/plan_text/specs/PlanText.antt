-- What a plan's text and files are: a plan, or the first fault.
use Rattle.std.specs.Prelude.{◌≡◌, ◌⊎◌, IsOk, ℕ, List, [], ◌∷◌}
use Rattle.std.specs.Prelude.{Option, Some, None, unwrap_or, Result, Ok, Err}
use Rattle.toml.specs.Data.{Members}
use Rattle.image_model.specs.Layout.{Layout}
use Rattle.plan_model.specs.Outline.{Outline}
use Rattle.plan_model.specs.declared.function.PlanFunction.{PlanFunction}
use Rattle.plan_model.specs.declared.layer.PlanLayer.{PlanLayer}
use Rattle.plan_model.specs.declared.numbers.Numbers.{Numbers}
use Rattle.plan_tables.specs.Faults.{first_fault}
use Rattle.plan_tables.specs.Tables.{document, each_table_fault, layers_at, functions_at}
use Rattle.plan_tables.specs.Top.{numbers_at}
use Rattle.plan_tables.specs.declared.fault.PlanFault.{PlanFault}
use Rattle.plan_tables.specs.declared.fault.PlanFault.TheVariants as faults
use Rattle.plan_text.specs.Images.{starts_of, no_totals, StopsAtOne}
use Rattle.plan_text.specs.Placing.{names_fault, below_fault, placed_functions, placed_layers}
use Rattle.plan_text.specs.Placing.{image_names}

-- ---- the plan but for its images

pub record Sketch : Type 0 where
  pub numbers : Numbers
  pub layers : List PlanLayer
  pub functions : List PlanFunction
  -- the names of the images' files
  pub images : List (List ℕ)

-- first each table for itself, then what they say of each other
unfoldable pub sketch_fault : Members → Option PlanFault
sketch_fault members = first_fault (
    each_table_fault members
    ∷ names_fault (layers_at members) (functions_at members)
    ∷ below_fault (layers_at members)
    ∷ [])

unfoldable pub sketch_at : Members → Sketch
sketch_at members = record {
  numbers = numbers_at members;
  layers = unwrap_or (placed_layers [] 0 (layers_at members)) [];
  functions = unwrap_or (placed_functions (layers_at members) (functions_at members)) [];
  images = image_names (layers_at members);
}

abbrev pub sketch_unless : Option PlanFault → Sketch → Result Sketch PlanFault
sketch_unless None sketch = Ok sketch
sketch_unless (Some fault) sketch = Err fault

abbrev pub sketch_of : Option Members → Result Sketch PlanFault
sketch_of None = Err faults.Toml
sketch_of (Some members) = sketch_unless (sketch_fault members) (sketch_at members)

-- what a text says, or its first fault
abbrev pub sketch : List ℕ → Result Sketch PlanFault
sketch bytes = sketch_of (document bytes)

-- ---- the plan

abbrev pub outline_of : Sketch → List Layout → Outline
outline_of s starts_made = record {
  numbers = s.numbers;
  layers = s.layers;
  functions = s.functions;
  starts = starts_made;
}

abbrev pub with_starts : Sketch → Result (List Layout) PlanFault → Result Outline PlanFault
with_starts s (Ok starts) = Ok (outline_of s starts)
with_starts s (Err fault) = Err fault

abbrev pub with_images : (List ℕ → Option (List ℕ)) → Result Sketch PlanFault
    → Result Outline PlanFault
with_images file_of (Err fault) = Err fault
with_images file_of (Ok s) =
    with_starts s (starts_of file_of s.numbers.stack_bytes s.images no_totals)

-- the plan of a text and the files of its images, or the first fault
abbrev pub plan : List ℕ → (List ℕ → Option (List ℕ)) → Result Outline PlanFault
plan bytes file_of = with_images file_of (sketch bytes)

-- a fault of an image or of its file, which is looked for once the text is right
abbrev pub IsOfImages : PlanFault → Type 0
IsOfImages faults.Toml = ⊥
IsOfImages (faults.Missing key) = ⊥
IsOfImages (faults.Unknown text) = ⊥
IsOfImages (faults.Shape key) = ⊥
IsOfImages (faults.Range key) = ⊥
IsOfImages faults.Name = ⊥
IsOfImages faults.Below = ⊥
IsOfImages (faults.Image fault) = Unit {0}
IsOfImages faults.File = Unit {0}
IsOfImages faults.Memory = ⊥

-- the text's first fault, or where the text is right a fault of an image or its file
abbrev pub IsInOrder : List ℕ → PlanFault → Type 0
IsInOrder bytes fault = (sketch bytes ≡ Err fault) ⊎ (IsOk (sketch bytes) × IsOfImages fault)

-- the text is right, and the reading stops at one of its images, each before being right
pub record StopsAtFile (bytes : List ℕ) (file_of : List ℕ → Option (List ℕ)) : Type 0 where
  pub said : Sketch
  pub says : sketch bytes ≡ Ok said
  pub stops : StopsAtOne file_of said.numbers.stack_bytes said.images
