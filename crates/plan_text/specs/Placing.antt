-- What each layer and function stands on, by numbers.
use Rattle.std.specs.Prelude.{ℕ, ◌+◌, Bool, ◌&&◌, if◌then◌else◌, is_some, List, [], ◌∷◌, ◌++◌}
use Rattle.std.specs.Prelude.{length, map}
use Rattle.std.specs.Prelude.{Option, Some, None, option_map, option_and_then, slice_get}
use Rattle.plan_model.specs.declared.function.PlanFunction.{PlanFunction}
use Rattle.plan_model.specs.declared.layer.PlanLayer.{PlanLayer}
use Rattle.plan_text.specs.Names.{are_names, number_of}
use Rattle.plan_tables.specs.declared.fault.PlanFault.{PlanFault}
use Rattle.plan_tables.specs.declared.fault.PlanFault.TheVariants as faults
use Rattle.plan_tables.specs.declared.function_table.FunctionText.{FunctionText}
use Rattle.plan_tables.specs.declared.layer_table.Base.{Base}
use Rattle.plan_tables.specs.declared.layer_table.Base.TheVariants.{Image, Below}
use Rattle.plan_tables.specs.declared.layer_table.LayerText.{LayerText}

-- ---- functions on layers

abbrev pub layer_names : List LayerText → List (List ℕ)
layer_names layers = map (λ layer. layer.name) layers

abbrev pub placed_function : List LayerText → FunctionText → Option PlanFunction
placed_function layers f =
    option_map (λ number. record { name = f.name; layer = number })
    (number_of 0 f.layer (layer_names layers))

abbrev pub with_function : Option PlanFunction → Option (List PlanFunction)
    → Option (List PlanFunction)
with_function None rest = None
with_function (Some f) None = None
with_function (Some f) (Some rest) = Some (f ∷ rest)

-- the functions with the numbers of their layers, where all are known
unfoldable pub placed_functions : List LayerText → List FunctionText → Option (List PlanFunction)
placed_functions layers [] = Some []
placed_functions layers (f ∷ fs) = with_function (placed_function layers f)
    (placed_functions layers fs)

-- each name is well formed, and none stands twice in its kind
abbrev pub are_well_named : List LayerText → List FunctionText → Bool
are_well_named layers functions =
    are_names (layer_names layers) && are_names (map (λ f. f.name) functions)

-- a name is malformed or repeated in its kind, or a function's layer is unknown
unfoldable pub names_fault : List LayerText → List FunctionText → Option PlanFault
names_fault layers functions =
    if are_well_named layers functions && is_some (placed_functions layers functions)
    then None else Some faults.Name

-- ---- layers on images and earlier layers

abbrev pub images_of : Base → List (List ℕ)
images_of (Image file) = file ∷ []
images_of (Below layer) = []

-- the names of the files of the layers with images
abbrev pub image_names : List LayerText → List (List ℕ)
image_names [] = []
image_names (l ∷ ls) = images_of l.base ++ image_names ls

-- a layer that stands on a start, and on a lower layer or none
abbrev pub layer_on : LayerText → (below : Option ℕ) → (start : ℕ) → PlanLayer
layer_on l lower number = record {
  name = l.name;
  below = lower;
  start = number;
  trigger = l.trigger;
  packets = l.packets;
}

-- the number of a lower layer, and its start
abbrev pub lower_footing : List PlanLayer → ℕ → Option (Option ℕ × ℕ)
lower_footing before number =
    option_map (λ lower. (Some number, lower.start)) (slice_get before number)

-- the lower layer, if any, and the start of a layer after those before it, of which so many have
-- images: an image's start is the next, and a lower layer is one of those before
abbrev pub footing : Base → (before : List PlanLayer) → (images : ℕ) → Option (Option ℕ × ℕ)
footing (Image file) before images = Some (None, images)
footing (Below name) before images =
    option_and_then (lower_footing before) (number_of 0 name (map (λ p. p.name) before))

abbrev pub placed_layer : (before : List PlanLayer) → (images : ℕ) → LayerText → Option PlanLayer
placed_layer before images l =
    option_map (λ place. layer_on l place.0 place.1) (footing l.base before images)

-- the layers with those before them, where each stands on an image or on an earlier one
unfoldable pub placed_layers : (before : List PlanLayer) → (images : ℕ) → List LayerText
    → Option (List PlanLayer)
placed_layers before images [] = Some before
placed_layers before images (l ∷ ls) =
    option_and_then (λ p. placed_layers (before ++ p ∷ []) (images + length (images_of l.base)) ls)
    (placed_layer before images l)

-- a layer stands on no earlier one
unfoldable pub below_fault : List LayerText → Option PlanFault
below_fault layers = if is_some (placed_layers [] 0 layers) then None else Some faults.Below
