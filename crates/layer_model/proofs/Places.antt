-- A place more, a request more: what is climbed and served goes on where it ended.
use Rattle.std.proofs.Common.{◌≡◌, ℕ, List, [], ◌∷◌, ◌++◌, Option, None, Some}
use Rattle.std.proofs.Common.{option_map, slice_get, IsSomeAnd, refl, ap, sym, ◌∙◌, subst}
use Rattle.machine_model.specs.Loaded.{loaded}
use Rattle.machine_model.specs.Machine.{Machine}
use Rattle.plan_model.proofs.Stacking.{stack_on}
use Rattle.plan_model.specs.Outline.{Outline}
use Rattle.plan_model.specs.Stacks.{stack, on_top, layer_below, StandLower}
use Rattle.plan_model.specs.declared.layer.PlanLayer.{PlanLayer}
use Rattle.space_api.specs.declared.given.Given.{Given}
use Rattle.layer_model.specs.Layers.{IsStep, Climbs, layers_to, IsPlace}
use Rattle.layer_model.specs.Replies.{IsServed, Serves, IsContext}

-- ---- climbs

pub climbs_more : (plan : Outline) (ks : List ℕ) (k : ℕ) (a b c : Machine)
    → Climbs plan ks a b → IsStep plan k b c → Climbs plan (ks ++ k ∷ []) a c
climbs_more plan [] k a b c is step = (c, subst (λ m. IsStep plan k m c) (sym is) step, refl)
climbs_more plan (j ∷ ks) k a b c (mid, first, rest) step =
    (mid, first, climbs_more plan ks k mid b c rest step)

pub climbs_less : (plan : Outline) (ks : List ℕ) (k : ℕ) (a c : Machine)
    → Climbs plan (ks ++ k ∷ []) a c → (b : Machine) × Climbs plan ks a b × IsStep plan k b c
climbs_less plan [] k a c (mid, step, is) =
    (a, refl, subst (λ m. IsStep plan k a m) is step)
climbs_less plan (j ∷ ks) k a c (mid, first, rest) =
    let less = climbs_less plan ks k mid c rest in
    (less.0, (mid, first, less.1), less.2)

-- ---- the layers up to a place

to_top : (layers : List PlanLayer) (below : Option ℕ) (k : ℕ)
    → on_top (option_map (stack layers) below) k ≡ layers_to layers below ++ k ∷ []
to_top layers None k = refl
to_top layers (Some b) k = refl

-- those up to a layer are those up to what it stands on, and the layer
pub layers_on : (layers : List PlanLayer) (k : ℕ) → StandLower layers
    → layers_to layers (Some k) ≡ layers_to layers (layer_below layers k) ++ k ∷ []
layers_on layers k lower = stack_on layers k lower ∙ to_top layers (layer_below layers k) k

-- ---- places

some_map : {A : Type 0} {P Q : A → Type 0} (o : Option A) → ((x : A) → P x → Q x)
    → IsSomeAnd o P → IsSomeAnd o Q
some_map None f is = is
some_map (Some x) f is = f x is

pub place_more : (plan : Outline) (start k : ℕ) (below : Option ℕ) (b c : Machine)
    → StandLower plan.layers → layer_below plan.layers k ≡ below → IsPlace plan start below b
    → IsStep plan k b c → IsPlace plan start (Some k) c
place_more plan start k below b c lower below_is stands step =
    some_map (slice_get plan.starts start) (λ layout climbed.
    subst (λ ks. Climbs plan ks (loaded layout) c)
    (ap (λ place. layers_to plan.layers place ++ k ∷ []) (sym below_is)
    ∙ sym (layers_on plan.layers k lower))
    (climbs_more plan (layers_to plan.layers below) k (loaded layout) b c climbed step)) stands

some_split : {A B : Type 0} (P : B → A → Type 0) (Q : B → Type 0) (o : Option A)
    → IsSomeAnd o (λ x. (b : B) × P b x × Q b) → (b : B) × IsSomeAnd o (P b) × Q b
some_split P Q None is = absurd is
some_split P Q (Some x) is = is

-- a layer's place is what its step leads to from what it stands on
pub place_less : (plan : Outline) (start k : ℕ) (below : Option ℕ) (c : Machine)
    → StandLower plan.layers → layer_below plan.layers k ≡ below → IsPlace plan start (Some k) c
    → (b : Machine) × IsPlace plan start below b × IsStep plan k b c
place_less plan start k below c lower below_is stands =
    some_split (λ b layout. Climbs plan (layers_to plan.layers below) (loaded layout) b)
    (λ b. IsStep plan k b c) (slice_get plan.starts start)
    (some_map (slice_get plan.starts start) (λ layout climbed.
    climbs_less plan (layers_to plan.layers below) k (loaded layout) c
    (subst (λ ks. Climbs plan ks (loaded layout) c)
    (layers_on plan.layers k lower
    ∙ ap (λ place. layers_to plan.layers place ++ k ∷ []) below_is) climbed)) stands)

-- ---- requests

pub serves_more : (plan : Outline) (served : List Given) (given : Given) (a b c : Machine)
    → Serves plan served a b → IsServed plan b given c → Serves plan (served ++ given ∷ []) a c
serves_more plan [] given a b c is one =
    (c, subst (λ m. IsServed plan m given c) (sym is) one, refl)
serves_more plan (g ∷ served) given a b c (mid, first, rest) one =
    (mid, first, serves_more plan served given mid b c rest one)

pub context_more : (plan : Outline) (start : ℕ) (place : Option ℕ) (served : List Given)
    (given : Given) (b c : Machine) → IsContext plan start place served b
    → IsServed plan b given c → IsContext plan start place (served ++ given ∷ []) c
context_more plan start place served given b c is one = record {
  base = is.base;
  stands = is.stands;
  serves = serves_more plan served given is.base b c is.serves one;
}

pub serves_less : (plan : Outline) (served : List Given) (given : Given) (a c : Machine)
    → Serves plan (served ++ given ∷ []) a c
    → (b : Machine) × Serves plan served a b × IsServed plan b given c
serves_less plan [] given a c (mid, one, is) =
    (a, refl, subst (λ m. IsServed plan a given m) is one)
serves_less plan (g ∷ served) given a c (mid, first, rest) =
    let less = serves_less plan served given mid c rest in
    (less.0, (mid, first, less.1), less.2)

pub context_less : (plan : Outline) (start : ℕ) (place : Option ℕ) (served : List Given)
    (given : Given) (c : Machine) → IsContext plan start place (served ++ given ∷ []) c
    → (b : Machine) × IsContext plan start place served b × IsServed plan b given c
context_less plan start place served given c is =
    let less = serves_less plan served given is.base c is.serves in (
      less.0,
      record { base = is.base; stands = is.stands; serves = less.1 },
      less.2,
    )
