-- The grounds of a plan: exactly its contexts and its layers.
use Rattle.std.specs.Prelude.{◌≡◌, Bool, []}
use Rattle.std.proofs.Common.{◌∙◌, sym, subst}
use Rattle.context_uc.specs.Views.{LayerView, TellsLayer, silent}
use Rattle.deployer.specs.Grounds.{AreGrounds, HasStart, IsContextOf, IsLayerOf}
use Rattle.layer_model.specs.Layers.{IsPlace}
use Rattle.plan_model.specs.Outline.{Outline}
use Rattle.space_api.specs.Flat.{Flat, machine_of}
use Rattle.space_api.specs.Stores.{Frozen, frozen, frozen_of}
use Rattle.space_api.specs.Told.{KeptLayer}

module _ {Z : Type 0} (flat : Z → Flat) (image : Z → Bool) where
  -- what is told of memory
  abbrev pub told : Z → Frozen
  told z = frozen_of (flat z) (image z)

  -- a layer that tells the same as one of the plan is one of the plan
  pub layer_stays : (plan : Outline) (a b : LayerView Z) → TellsLayer told a b →
      IsLayerOf plan flat a → IsLayerOf plan flat b
  layer_stays plan a b same is = record {
    plan_is = sym same.plan ∙ is.plan_is;
    start_is = subst (λ (k : KeptLayer). HasStart plan k.number k.start) same.kept is.start_is;
    kept = subst (λ (p : Outline). IsPlace p b.start b.number
        (machine_of b.hart (frozen (flat b.frozen)) silent)) same.plan
        (subst (λ (k : KeptLayer). IsPlace a.plan k.start k.number
        (machine_of k.hart (frozen k.memory.flat) silent)) same.kept is.kept);
  }

-- the contexts and the layers of the plan are grounds
pub plan_grounds : {S Z : Type 0} (plan : Outline) (flat : Z → Flat) →
    AreGrounds {S = S} plan flat (IsContextOf plan) (IsLayerOf plan flat)
plan_grounds plan flat = record {
  context = λ c is. is;
  any_context = λ c is. is;
  layer = λ l is. is;
  any_layer = λ l is. is;
}

-- also where the plan was picked
pub picked_grounds : {S Z : Type 0} (plan picked : Outline) (flat : Z → Flat) → plan ≡ picked →
    AreGrounds {S = S} plan flat (IsContextOf picked) (IsLayerOf picked flat)
picked_grounds {S} plan picked flat e =
    subst (λ (p : Outline). AreGrounds {S = S} plan flat (IsContextOf p) (IsLayerOf p flat)) e
    (plan_grounds plan flat)

-- a plan of nothing, where none was picked
abbrev pub empty_plan : Outline
empty_plan = record {
  numbers = record {
    frames = 0;
    workers = 0;
    idle = 0;
    room = 0;
    uses = 0;
    budget = 0;
    prepare = 0;
    stack_bytes = 0;
    clock = 0;
    serve = 0;
  };
  layers = [];
  functions = [];
  starts = [];
}
