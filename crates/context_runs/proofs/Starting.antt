-- A context that begins where a machine stands.
use Rattle.std.proofs.Common.{ℕ, ◌≤◌, Option, None, Some, [], length, refl, arith}
use Rattle.std.proofs.lemmas.Option.{slice_get_within}
use Rattle.layer_model.proofs.Places.{place_less}
use Rattle.layer_model.specs.Layers.{IsPlace}
use Rattle.machine_model.specs.Machine.{Machine}
use Rattle.plan_model.proofs.Stacking.{stand_lower}
use Rattle.plan_model.specs.Outline.{Outline, AreParts}
use Rattle.plan_model.specs.Stacks.{layer_below}
use Rattle.context_uc.specs.Views.{IsModel, level_of}
use Rattle.context_runs.specs.Standing.{StandsFor}

-- it is the model's, which served nothing
pub begins : (plan : Outline) (number : ℕ) (place : Option ℕ) (m : Machine)
    → StandsFor plan number place m → IsModel plan number place [] m
begins plan number place m stands = record {
  function = stands.function;
  layer = stands.layer;
  function_is = stands.function_is;
  context_is = record { base = m; stands = stands.place_is; serves = refl };
}

-- a place is low, as there are few layers
pub place_is_low : (plan : Outline) (start : ℕ) (place : Option ℕ) (m : Machine) → AreParts plan
    → IsPlace plan start place m → level_of place ≤ 64
place_is_low plan start None m parts stands = omega arith
place_is_low plan start (Some number) m parts stands =
    let lower = stand_lower plan.layers (length plan.starts) parts.layers in
    let step = (place_less plan start number (layer_below plan.layers number) m lower refl stands).2
    in
    let within = slice_get_within plan.layers number step.layer step.layer_is in
    let most = parts.layer_count.1 in
    omega (arith, within, most)
