-- What was deployed is to be a context's of its function.
use Rattle.std.proofs.Common.{Bool, IsSome, ◌⊎◌, inl, inr, get_or}
use Rattle.std.proofs.Common.{◌≡◌, ℕ, ◌+◌, ◌<◌, ◌≤◌, true, false, List, [], ◌∷◌, length}
use Rattle.std.proofs.Common.{Option, None, Some, slice_get, IfSome, refl, sym}
use Rattle.std.proofs.Common.{◌∙◌, ap, subst, arith}
use Rattle.std.specs.List.{AllByRecursion}
use Rattle.std.proofs.lemmas.Option.{same_Some, slice_get_cases}
use Rattle.book_core.specs.declared.deploying.Deployed.{Deployed}
use Rattle.book_model.specs.Kept.{IsLayerOf, IsImageOf}
use Rattle.book_model.specs.Shared.{Shared}
use Rattle.book_model.specs.Steps.{Deploys, DeploysNone, image_of, below_of, start_of}
use Rattle.book_model.specs.Steps.{with_below}
use Rattle.book_model.proofs.Entries.{all_lookup}
use Rattle.context_runs.specs.OfLayers.{IsOnStack}
use Rattle.context_runs.specs.Standing.{StandsFor}
use Rattle.context_uc.specs.Views.{ContextView, LayerView, kept_of}
use Rattle.context_uc.specs.Views.{silent}
use Rattle.deployer.specs.Grounds as grounds
use Rattle.deployer.specs.Hosting.{Telling, IsFresh, IsDrawn}
use Rattle.deployer.proofs.Going.{went_nowhere, went_one}
use Rattle.deployer.proofs.Stacked.{same_start, highest_in, there}
use Rattle.journal_model.specs.Extents.{Extents}
use Rattle.journal_model.specs.State.{State, stack_of, highest_kept, contains}
use Rattle.journal_model.specs.Legal as legal
use Rattle.journal_model.specs.Legal.{after, request_function}
use Rattle.journal_model.specs.declared.event.Event.TheVariants.{Deploy}
use Rattle.layer_model.specs.Layers.{IsPlace}
use Rattle.layer_model.specs.Replies.{IsFunction}
use Rattle.machine_model.specs.declared.hart.Hart.{Hart}
use Rattle.plan_model.specs.Outline.{Outline, IsPlan}
use Rattle.plan_model.specs.Stacks.{stack}
use Rattle.plan_model.specs.declared.function.PlanFunction.{PlanFunction}
use Rattle.plan_model.specs.declared.layer.PlanLayer.{PlanLayer}
use Rattle.journal_model.proofs.Frames.{and_first, and_second, stood}
use Rattle.journal_model.proofs.Recents.{same}
use Rattle.journal_model.specs.declared.state.Duty.TheVariants.{Serves}
use Rattle.service_laws.specs.Serving.{IsServing}
use Rattle.service_laws.proofs.Giving.{deployed_serves, deployed_function, deployed_served}
use Rattle.service_model.specs.Going.{WentBy}
use Rattle.space_api.specs.Flat.{Flat, machine_of}
use Rattle.space_api.specs.Holding.{Pin, Stocked, Holding}
use Rattle.space_api.specs.Told.{KeptLayer}
use Rattle.space_api.specs.Stores.{Spaced, frozen, frozen_of, spaced_of}

-- a layer of the function's stack has the start of the function's layer
stack_start : (plan : Outline) (f : ℕ) (function : PlanFunction) (top : PlanLayer) (k start : ℕ) →
    IsPlan plan → IsFunction plan f function top → grounds.HasStart plan (Some k) start →
    contains k (stack plan.layers function.layer) ≡ true → start ≡ top.start
stack_start plan f function top k start is at has in_stack =
    there (start ≡ top.start) (slice_get plan.layers k) has (λ layer e s.
    there (start ≡ top.start) (slice_get plan.layers k)
    (same_start plan.layers (length plan.starts) is.parts.layers (function.layer + 1)
    function.layer k top at.layer_is in_stack)
    (λ other g t. s ∙ (ap (λ (l : PlanLayer). l.start) (same_Some layer other (sym e ∙ g)) ∙ t)))

module _ (plan : Outline) (sizes : Extents) (f : ℕ) (function : PlanFunction) (top : PlanLayer)
    (sized : grounds.IsSizedBy plan sizes) (at : IsFunction plan f function top) where
  -- the image of the function is that of its layer's start
  start_there : (s : State) (i : ℕ) → request_function s i ≡ f →
      start_of (slice_get sizes.stacks (request_function s i)) ≡ top.start
  start_there s i r = ap (λ n. start_of (slice_get sizes.stacks n)) r
      ∙ ap start_of (sized.stacks f function top at)

  -- the stack of the function is the plan's
  pub stack_there : (s : State) (i : ℕ) → request_function s i ≡ f →
      stack_of sizes (request_function s i) ≡ stack plan.layers function.layer
  unfolding stack_of
  stack_there s i r = ap (λ n. stack_of sizes n) r ∙ rw (sized.stacks f function top at) refl

module _ {S Z : Type 0} (plan : Outline) (telling : Telling S) (flat : Z → Flat)
    (image : Z → Bool) where
  abbrev pub told : LayerView Z → KeptLayer
  told = kept_of (λ z. frozen_of (flat z) (image z))

  -- what is deployed from a layer of the plan stands there, over the image of the function's layer
  below_stands : (f : ℕ) (function : PlanFunction) (top : PlanLayer) (l : LayerView Z)
      (d : Deployed S) → IsFunction plan f function top → grounds.IsLayerOf plan flat l →
      l.number ≡ d.from → l.start ≡ top.start → d.hart ≡ l.hart →
      telling.flat d.space ≡ frozen (flat l.frozen) →
      StandsFor plan f d.from (machine_of d.hart (telling.flat d.space) silent)
  below_stands f function top l d at is n s h e = record {
    function = function;
    layer = top;
    function_is = at;
    place_is = it;
  } where
    it : IsPlace plan top.start d.from (machine_of d.hart (telling.flat d.space) silent)
    it = subst (λ g. IsPlace plan top.start d.from (machine_of d.hart g silent)) (sym e)
        (subst (λ x. IsPlace plan top.start d.from
        (machine_of x (frozen (flat l.frozen)) silent))
        (sym h) (subst (λ o. IsPlace plan top.start o (machine_of l.hart
        (frozen (flat l.frozen)) silent)) n (subst (λ a. IsPlace plan a l.number
        (machine_of l.hart (frozen (flat l.frozen)) silent)) s (subst (λ p. IsPlace p l.start
        l.number (machine_of l.hart (frozen (flat l.frozen)) silent)) is.plan_is is.kept))))

  -- what a kept layer of the book, or an image, is to a deploy
  pub record IsHeldBelow (pin : Z → Option Pin) (is_layer : LayerView Z → Type 0)
      (kept : List (ℕ × LayerView Z)) (images : List (LayerView Z)) : Type 0 where
    pub layers : AllByRecursion (λ (e : ℕ × LayerView Z). is_layer e.1
        × IsLayerOf e.0 (told e.1) (pin e.1.frozen)) kept
    pub opened : (start : ℕ) (l : LayerView Z) → slice_get images start ≡ Some l →
        is_layer l × IsImageOf start (told l) (pin l.frozen)
    pub of_plan : (l : LayerView Z) → is_layer l → grounds.IsLayerOf plan flat l

  -- what a deploy stands on is the plan's, with the start of the function's layer
  record IsBelow (f : ℕ) (top : PlanLayer) (l : LayerView Z) (from : Option ℕ) : Type 0 where
    of_plan : grounds.IsLayerOf plan flat l
    number : l.number ≡ from
    start : l.start ≡ top.start
    on_way : IsOnStack plan f from

  module _ {C H : Type 0} (pin : Z → Option Pin) (is_layer : LayerView Z → Type 0) (f i : ℕ)
      (function : PlanFunction) (top : PlanLayer) (is : IsPlan plan)
      (at : IsFunction plan f function top) where
    below_is : (from : Option ℕ) (l : LayerView Z) (b : Shared C (LayerView Z) H) →
        grounds.IsSizedBy plan b.sizes → request_function b.state i ≡ f →
        IsHeldBelow pin is_layer b.kept b.images → below_of i from b ≡ Some l →
        highest_kept b.state.kept (stack_of b.sizes (request_function b.state i)) ≡ from →
        IsBelow f top l from
    below_is None l b sized r held e k =
        let h = held.opened (image_of i b) l e in record {
          of_plan = held.of_plan l h.0;
          number = h.1.number;
          start = h.1.start_is ∙ start_there plan b.sizes f function top sized at b.state i r;
          on_way = record {
            function = function;
            top = top;
            function_is = at;
            stands = tt;
          };
        }
    below_is (Some k) l b sized r held e high =
        let h = all_lookup (λ (e : ℕ × LayerView Z). is_layer e.1
        × IsLayerOf e.0 (told e.1) (pin e.1.frozen)) k b.kept l held.layers e in
        let of = held.of_plan l h.0 in
        let has = subst (λ o. grounds.HasStart plan o l.start) h.1.number of.start_is in
        let inside = subst (λ ks. contains k ks ≡ true)
        (stack_there plan b.sizes f function top sized at b.state i r)
        (highest_in b.state.kept _ k high) in record {
          of_plan = of;
          number = h.1.number;
          start = stack_start plan f function top k l.start is at has inside;
          on_way = record {
            function = function;
            top = top;
            function_is = at;
            stands = inside;
          };
        }

-- both are one place
place_same : (a b : Option ℕ) → legal.same_place a b ≡ true → a ≡ b
place_same None None h = refl
place_same None (Some k) h = absurd (cc)
place_same (Some j) None h = absurd (cc)
place_same (Some j) (Some k) h = ap (λ (n : ℕ). Some n) (same j k h)

-- a deploy is from the highest kept layer of the request's function
deploy_high : (sizes : Extents) (s : State) (c : ℕ) (from : Option ℕ) (i n : ℕ) →
    legal.may_deploy sizes s c from i n ≡ true →
    highest_kept s.kept (stack_of sizes (request_function s i)) ≡ from
unfolding legal.may_deploy
deploy_high sizes s c from i n h =
    place_same _ from (and_second _ _ (and_first _ _ (and_first _ _ h)))

module _ {S Z H : Type 0} (plan : Outline) (telling : Telling S) (flat : Z → Flat)
    (image : Z → Bool) (stocked : H → Stocked) (tells_same : LayerView Z → LayerView Z → Type 0)
    (holding : LayerView Z → Holding) where
  module _ (i f : ℕ) (d : Deployed S) (takes : Bool) (held : Holding)
      (old new : Shared (ContextView S) (LayerView Z) H)
      (deploys : Deploys (told plan telling flat image) tells_same holding stocked i d.context
      d.from d.hart takes (spaced_of (telling.flat d.space) (telling.spares d.space)
      (telling.finished d.space)) held old new) where
    -- what was deployed is to be a context's of the function
    pub deployed_fresh : (pin : Z → Option Pin) (is_layer : LayerView Z → Type 0) →
        IsPlan plan → (function : PlanFunction) (top : PlanLayer) →
        IsFunction plan f function top → grounds.IsSizedBy plan old.sizes →
        request_function old.state i ≡ f →
        IsHeldBelow plan telling flat image pin is_layer old.kept old.images →
        held.pin ≡ telling.pin d.space → IsFresh plan telling f d
    deployed_fresh pin is_layer is function top at sized r layers p =
        let b = below_is plan telling flat image pin is_layer f i function top is at d.from
        deploys.below old sized r layers deploys.below_is (deploy_high old.sizes old.state
        d.context d.from i old.sizes.root (stood _ _ new.state deploys.legal).0) in record {
          stands = below_stands plan telling flat image f function top deploys.below d at b.of_plan
              b.number b.start deploys.hart_is
              (ap (λ (s : Spaced). s.flat) deploys.space_is);
          on_way = b.on_way;
          unfinished = ap (λ (s : Spaced). s.finished) deploys.space_is;
          loose = sym p ∙ deploys.space_loose;
        }

    -- its number serves the request
    pub deployed_drawn : request_function old.state i ≡ f → IsDrawn i f d new
    deployed_drawn r = record {
      serving = subst (λ n. IsServing new.state i d.context (record {
        function = n;
        layer = d.from;
        used = 0;
        duty = Serves i;
      })) r (deployed_serves old.sizes old.state d.context d.from i old.sizes.root new.state
          deploys.legal);
      function_is = deployed_function old.sizes old.state d.context d.from i old.sizes.root
          new.state deploys.legal ∙ r;
      none_served = deployed_served old.sizes old.state d.context d.from i old.sizes.root
          new.state deploys.legal;
    }

-- ---- how the book goes on

-- what is the same with another value below
record IsBeside {C L H : Type 0} (old new : Shared C L H) : Type 0 where
  sizes_stay : new.sizes ≡ old.sizes
  started_stay : new.started ≡ old.started
  state_stays : new.state ≡ old.state
  events_stay : new.events ≡ old.events

below_beside : {C L H : Type 0} (i : ℕ) (from : Option ℕ) (deployed : Bool) (touched : L)
    (old : Shared C L H) → IsBeside old (with_below i from deployed touched old)
below_beside i None deployed touched old = record {
  sizes_stay = refl;
  started_stay = refl;
  state_stays = refl;
  events_stay = refl;
}
below_beside i (Some k) deployed touched old = record {
  sizes_stay = refl;
  started_stay = refl;
  state_stays = refl;
  events_stay = refl;
}

module _ {C L H : Type 0} (kept : L → KeptLayer) (tells_same : L → L → Type 0)
    (holding : L → Holding) (stocked : H → Stocked) where
  pub deploys_went : (i c : ℕ) (from : Option ℕ) (hart : Hart) (takes : Bool) (space : Spaced)
      (held : Holding) (old new : Shared C L H) →
      Deploys kept tells_same holding stocked i c from hart takes space held old new →
      WentBy (Deploy c from i old.sizes.root ∷ []) old new
  deploys_went i c from hart takes space held old new d =
      let b = below_beside i from true d.touched old in
      went_one (Deploy c from i old.sizes.root) old new
      (ap (λ (x : Shared C L H). x.sizes) d.new_is ∙ b.sizes_stay)
      (ap (λ (x : Shared C L H). x.started) d.new_is ∙ b.started_stay) d.legal
      (ap (λ (x : Shared C L H). x.events) d.new_is)

  pub deploys_none : (i : ℕ) (old new : Shared C L H) →
      DeploysNone kept tells_same holding stocked i old new → WentBy [] old new
  deploys_none i old new d =
      let t = d.touches in let b = below_beside i d.from false t.touched old in
      went_nowhere old new (ap (λ (x : Shared C L H). x.sizes) t.new_is ∙ b.sizes_stay)
      (ap (λ (x : Shared C L H). x.started) t.new_is ∙ b.started_stay)
      (ap (λ (x : Shared C L H). x.state) t.new_is ∙ b.state_stays)
      (ap (λ (x : Shared C L H). x.events) t.new_is ∙ b.events_stay)

-- ---- the function and its stack

slice_get_some : {A : Type 0} (xs : List A) (n : ℕ) → n < length xs → IsSome (slice_get xs n)
slice_get_some xs n lt = at (slice_get_cases xs n).1 where
  at : ((x : _) × (n < length xs) × (slice_get xs n ≡ Some x) × (get_or xs n x ≡ x))
      ⊎ ((length xs ≤ n) × (slice_get xs n ≡ None)) → IsSome (slice_get xs n)
  at (inl h) = subst (λ o. IsSome o) (sym h.2) refl
  at (inr h) = let le = h.0 in absurd (omega (arith, le, lt))

-- a function of the plan, with its layer
pub record IsThere (plan : Outline) (f : ℕ) : Type 0 where
  pub function : PlanFunction
  pub layer : PlanLayer
  pub is : IsFunction plan f function layer

pub function_there : (plan : Outline) (f : ℕ) → IsPlan plan → f < length plan.functions →
    IsThere plan f
function_there plan f is lt =
    at (slice_get plan.functions f) refl (slice_get_some plan.functions f lt) where
      layered : (function : PlanFunction) → slice_get plan.functions f ≡ Some function →
          (o : Option PlanLayer) → slice_get plan.layers function.layer ≡ o → IsSome o →
          IsThere plan f
      layered function e None g s = absurd (cc)
      layered function e (Some layer) g s = record {
        function = function;
        layer = layer;
        is = record { function_is = e; layer_is = g };
      }

      at : (o : Option PlanFunction) → slice_get plan.functions f ≡ o → IsSome o → IsThere plan f
      at None e s = absurd (cc)
      at (Some function) e s = layered function e (slice_get plan.layers function.layer) refl
          (slice_get_some plan.layers function.layer (is.parts.functions f function e))

pub stack_given : (plan : Outline) (sizes : Extents) (s : State) (f i : ℕ) (given : List ℕ) →
    IsPlan plan → grounds.IsSizedBy plan sizes → f < length plan.functions →
    request_function s i ≡ f →
    IfSome (slice_get plan.functions f) (λ (g : PlanFunction). given ≡ stack plan.layers g.layer) →
    given ≡ stack_of sizes (request_function s i)
stack_given plan sizes s f i given is sized lt r h =
    let t = function_there plan f is lt in
    subst (λ o. IfSome o (λ (g : PlanFunction). given ≡ stack plan.layers g.layer))
    t.is.function_is h ∙ sym (stack_there plan sizes f t.function t.layer sized t.is s i r)
