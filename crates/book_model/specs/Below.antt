-- What a deploy stands on, by its place: a kept layer, or else the image of the function.
use Rattle.std.specs.Prelude.{ℕ, Bool, List, Option, None, Some, nat_eq}
use Rattle.std.specs.Map.{lookup}
use Rattle.slot_lists.specs.Lists.{after_deploy}

module _ {L : Type 0} where
  -- what it stands on
  abbrev pub below_in : (from : Option ℕ) → List (ℕ × L) → (image : L) → Option L
  below_in None kept image = Some image
  below_in (Some k) kept image = lookup (nat_eq k) kept

  -- the kept layers, with another value in that place; it goes to the front exactly where it was
  -- deployed
  abbrev pub layers_with : (from : Option ℕ) → (deployed : Bool) → L → List (ℕ × L) → List (ℕ × L)
  layers_with None deployed layer kept = kept
  layers_with (Some k) deployed layer kept = after_deploy deployed k layer kept

  -- the image, with another value in that place
  abbrev pub image_with : (from : Option ℕ) → L → (image : L) → L
  image_with None layer image = layer
  image_with (Some k) layer image = image
