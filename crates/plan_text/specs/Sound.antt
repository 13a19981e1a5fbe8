-- What holds of each sketch: it is a plan, whatever its images start with.
use Rattle.std.specs.Prelude.{◌≡◌, ℕ, List, length, Ok}
use Rattle.plan_model.specs.Outline.{Outline, IsFrom, AreNumbers, AreLayers, AreFunctions}
use Rattle.plan_model.specs.declared.function.PlanFunction.{PlanFunction}
use Rattle.plan_model.specs.declared.layer.PlanLayer.{PlanLayer}
use Rattle.plan_model.specs.declared.numbers.Numbers.{Numbers}
use Rattle.plan_text.specs.PlanText.{sketch}

-- the parts, where there are so many images
pub record IsSoundSketch (n : Numbers) (ls : List PlanLayer) (fs : List PlanFunction)
    (images : ℕ) : Type 0 where
  pub numbers : AreNumbers n
  pub layer_count : IsFrom 1 64 (length ls)
  pub layers : AreLayers ls images
  pub function_count : IsFrom 1 64 (length fs)
  pub functions : AreFunctions fs (length ls)

-- all of a plan but its starts is what the text says
pub record IsOfText (bytes : List ℕ) (plan : Outline) : Type 0 where
  pub files : List (List ℕ)
  pub says : sketch bytes ≡ Ok (record {
    numbers = plan.numbers;
    layers = plan.layers;
    functions = plan.functions;
    images = files;
  })
  pub count : length plan.starts ≡ length files
