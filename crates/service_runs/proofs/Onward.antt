-- A context that serves a request sets out on its next run.
use Rattle.std.proofs.Common.{◌≡◌, ℕ, ◌==◌, ◌||◌, ◌++◌, ◌∷◌, [], Bool, true}
use Rattle.std.proofs.Common.{false, List, Option, None, Some, IfSome, IfOk, IsSome, Result, refl}
use Rattle.std.proofs.Common.{sym, ◌∙◌, ap}
use Rattle.std.proofs.Common.{subst, inl, inr, option_map, add-one, arith}
use Rattle.std.proofs.lemmas.Bool.Decides.{nat_tests}
use Rattle.std.proofs.lemmas.Option.{same_Some}
use Rattle.book_core.specs.declared.deploying.Deployed.{Deployed as NewContext}
use Rattle.book_log.specs.declared.started.Started.{Started}
use Rattle.book_model.specs.Kept.{givens}
use Rattle.book_model.specs.Shared.{Shared}
use Rattle.context_runs.specs.OfLayers.{IsAbove, IsOnStack, IsTop, StandsAbove}
use Rattle.context_runs.specs.OfRequests.{MayServe}
use Rattle.context_runs.specs.declared.layer_run.LayerRun.{LayerRun}
use Rattle.context_uc.specs.Views.{ContextView, level_of}
use Rattle.deployer.specs.Hosting.{Hosts, IsDrawn, IsInService, Telling}
use Rattle.hyper_calls.specs.Exchange.{Exchange}
use Rattle.journal_model.specs.Legal.{after_all, at_first}
use Rattle.journal_model.specs.State.{contains}
use Rattle.journal_model.specs.declared.state.ContextState.{ContextState}
use Rattle.journal_model.specs.declared.state.Duty.TheVariants.{Serves}
use Rattle.plan_model.specs.Outline.{IsPlan, Outline}
use Rattle.plan_model.specs.Stacks.{layer_below, on_top, stack, top_layers}
use Rattle.plan_model.specs.declared.function.PlanFunction.{PlanFunction}
use Rattle.plan_model.specs.declared.layer.PlanLayer.{PlanLayer}
use Rattle.request_service.specs.UnderWay.{HostsInRun, IsKnownAs, IsToBegin}
use Rattle.request_service.specs.declared.service.Origin.{Origin}
use Rattle.service_ends.proofs.Closes.{context_is}
use Rattle.service_laws.specs.Serving.{IsServing}
use Rattle.service_model.specs.Going.{given_in}
use Rattle.service_runs.specs.SettingOut.{SetsOut}
use Rattle.service_runs.specs.declared.setting_out.SetOut.{SetOut}
use Rattle.space_api.specs.declared.given.Given.{Given}

-- ---- where it stands

number_same : (k : ℕ) → (k == k) ≡ true
number_same k = grind (arith, nat_tests)

true_right : (a b : Bool) → b ≡ true → (a || b) ≡ true
true_right true b h = refl
true_right false b h = h

contains_last : (k : ℕ) (xs : List ℕ) → contains k (xs ++ k ∷ []) ≡ true
unfolding contains
contains_last k [] = ap (λ t. t || false) (number_same k)
contains_last k (x ∷ xs) = true_right (x == k) (contains k (xs ++ k ∷ [])) (contains_last k xs)

on_its_top : (o : Option (List ℕ)) (k : ℕ) → contains k (on_top o k) ≡ true
on_its_top None k = contains_last k []
on_its_top (Some lower) k = contains_last k lower

-- a layer is the last one of its stack
last_of_stack : (layers : List PlanLayer) (k : ℕ) → contains k (stack layers k) ≡ true
unfolding top_layers
last_of_stack layers k = rw (add-one k)
    (on_its_top (option_map (top_layers k layers) (layer_below layers k)) k)

module _ (plan : Outline) (f : ℕ) (place : Option ℕ) where
  top_on_stack : IsTop plan f place → IsOnStack plan f place
  top_on_stack top = record {
    function = top.function;
    top = top.layer;
    function_is = top.function_is;
    stands = subst (λ p. IfSome p (λ k. contains k (stack plan.layers top.function.layer)
        ≡ true)) (sym top.place_is) (last_of_stack plan.layers top.function.layer);
  }

  -- nothing stands above the function's layer
  not_above : (k : ℕ) → IsTop plan f place → StandsAbove plan f place k → ⊥
  not_above k top a = a.place_is (top.place_is ∙ ap (λ (x : PlanFunction). Some x.layer)
      (same_Some top.function a.function
      (sym top.function_is.function_is ∙ a.function_is.function_is)))

module _ {S : Type 0} (c : ContextView S) (service : IsInService c.plan c) where
  pub stands_on : IsOnStack c.plan c.function c.layer
  stands_on = elim service.stands [
    | inl top ↦ top_on_stack c.plan c.function c.layer top
    | inr low ↦ low.1
  ]

  -- a context that has a layer to climb served nothing
  pub is_above : (k : ℕ) → StandsAbove c.plan c.function c.layer k → IsAbove c k
  is_above k a = record {
    above = a;
    unused = elim service.stands [
      | inl top ↦ absurd (not_above c.plan c.function c.layer k top a)
      | inr low ↦ low.0
    ];
  }

  pub may_serve : IsTop c.plan c.function c.layer → MayServe c
  may_serve top = record { top = top; room = service.is_usable.usable }

module _ {S L H : Type 0} (plan : Outline) (telling : Telling S) (i : ℕ)
    (book : Shared (ContextView S) L H) where
  -- a context between runs may run
  pub hosts_running : (c : ContextView S) → Hosts plan telling i c book →
      HostsInRun plan telling i c book
  hosts_running c hosts = subst (λ b. Hosts plan telling i (record c { still = b }) book)
      hosts.in_service.is_usable.still hosts

  -- a new context is where its space was deployed from
  pub hosts_begun : (f : ℕ) (d : NewContext S) → IsToBegin plan telling i f d book →
      IsPlan plan → (s : S) → telling.spares s ≡ 0 → telling.pin s ≡ None →
      (c : ContextView S) → c ≡ record {
        plan = plan;
        id = d.context;
        function = f;
        layer = d.from;
        served = [];
        uses = plan.numbers.uses;
        stripped = 0;
        still = true;
        hart = d.hart;
        space = s;
      } → Hosts c.plan telling i c book
  unfolding givens
  hosts_begun f d begin is s bare loose c same = subst (λ x. Hosts x.plan telling i x book)
      (sym same) (record {
        in_service = record {
          is_usable = record {
            plan_is = refl;
            still = refl;
            uses_are = refl;
            usable = let u = is.parts.numbers.uses.0 in omega (arith, u);
          };
          stands = inr (refl, begin.fresh.on_way);
        };
        state = record {
          function = f;
          layer = d.from;
          used = 0;
          duty = Serves i;
        };
        serving = begin.drawn.serving;
        function_is = begin.drawn.function_is;
        noted = record {
          number = refl;
          for_function = refl;
          place = refl;
          bare = bare;
          in_order = ap (λ ns. givens book.started ns) (sym begin.drawn.none_served);
        };
        loose = loose;
      })

-- what was given to a request is there
pub some_given : (started : List Started) (i : ℕ) →
    ((own : Given) × (given_in started i ≡ Some own)) → IsSome (given_in started i)
some_given started i (own, is) = subst (λ o. IsSome o) (sym is) refl

-- the layer whose run began is on the way
pub way_to : {S : Type 0} (c : ContextView S) (run : LayerRun) (k : ℕ) →
    run ≡ record { number = k; done = 0 } → IsOnStack c.plan c.function (Some k) →
    IsOnStack c.plan c.function (Some run.number)
way_to c run k is on = subst (λ (r : LayerRun). IsOnStack c.plan c.function (Some r.number))
    (sym is) on

-- what a new context is that was begun
abbrev pub new_context : {S : Type 0} (plan : Outline) (f : ℕ) (d : NewContext S) (s : S) →
    ContextView S
new_context plan f d s = record {
  plan = plan;
  id = d.context;
  function = f;
  layer = d.from;
  served = [];
  uses = plan.numbers.uses;
  stripped = 0;
  still = true;
  hart = d.hart;
  space = s;
}

-- what it came to is what the service came to
pub out_same : {S L H E : Type 0} (telling : Telling S) (i : ℕ) (plan : Outline) (f : ℕ)
    (d : NewContext S) (c : ContextView S) (s : S) → c ≡ new_context plan f d s →
    (r : Result (SetOut (ContextView S)) E) (ports : Exchange)
    (old new : Shared (ContextView S) L H) →
    IfOk r (λ out. SetsOut c.plan telling i 0 (level_of c.layer) out ports old new) →
    IfOk r (λ out. SetsOut plan telling i 0 (level_of d.from) out ports old new)
out_same telling i plan f d c s is r ports old new h = subst (λ (x : ContextView _).
    IfOk r (λ out. SetsOut x.plan telling i 0 (level_of x.layer) out ports old new)) is h

-- a new context serves the request of whose line it is
pub drawn_is : {S L H : Type 0} (o : Origin) (f : ℕ) (d : NewContext S)
    (book : Shared (ContextView S) L H) →
    after_all book.sizes (at_first book.sizes) book.events ≡ Some book.state →
    IsKnownAs o book.state → IsDrawn o.i f d book →
    (x : ContextState) × IsServing book.state o.i o.context x
drawn_is o f d book reached known drawn = (
  _,
  subst (λ n. IsServing book.state o.i n (record {
    function = f;
    layer = d.from;
    used = 0;
    duty = Serves o.i;
  })) (context_is o d.context book reached (record {
    known = known;
    state = _;
    serving = drawn.serving;
  })) drawn.serving,
)

-- a context that serves is of the plan that it borrows
pub hosts_of_plan : {S L H : Type 0} (plan : Outline) (telling : Telling S) (i : ℕ)
    (c : ContextView S) (book : Shared (ContextView S) L H) → Hosts plan telling i c book →
    Hosts c.plan telling i c book
hosts_of_plan plan telling i c book hosts = subst (λ p. Hosts p telling i c book)
    (sym hosts.in_service.is_usable.plan_is) hosts

-- what came of a context is told of its plan
pub out_of_plan : {S L H E : Type 0} (plan : Outline) (telling : Telling S) (i level : ℕ)
    (p : Outline) → p ≡ plan → (r : Result (SetOut (ContextView S)) E) (ports : Exchange)
    (old new : Shared (ContextView S) L H) →
    IfOk r (λ out. SetsOut p telling i 0 level out ports old new) →
    IfOk r (λ out. SetsOut plan telling i 0 level out ports old new)
out_of_plan plan telling i level p is r ports old new h =
    subst (λ q. IfOk r (λ out. SetsOut q telling i 0 level out ports old new)) is h
