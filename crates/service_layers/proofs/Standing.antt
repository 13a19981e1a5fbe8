-- A context that was captured stands at its layer, and serves on.
use Rattle.std.proofs.Common.{◌≡◌, ◌≢◌, ℕ, ◌+◌, ◌<◌, [], Bool, true, false, Option}
use Rattle.std.proofs.Common.{None, Some, IfSome, refl, sym, ◌∙◌, ap, subst, inr, arith}
use Rattle.std.specs.List.{list_any}
use Rattle.book_model.specs.Kept.{givens}
use Rattle.book_model.specs.Shared.{Shared}
use Rattle.book_model.specs.Steps.{built_events}
use Rattle.context_runs.specs.OfLayers.{IsOnStack, StandsAbove}
use Rattle.context_uc.specs.Views.{ContextView, level_of}
use Rattle.deployer.specs.Hosting.{Hosts, Telling}
use Rattle.journal_model.specs.Extents.{Extents}
use Rattle.journal_model.specs.Legal.{after_all, at_first, request_function}
use Rattle.journal_model.specs.Reads.{served, service_of}
use Rattle.journal_model.specs.State.{State}
use Rattle.journal_model.specs.declared.state.ContextState.{ContextState}
use Rattle.plan_model.specs.Outline.{IsPlan, Outline}
use Rattle.request_service.specs.Climbing.{Climbs}
use Rattle.request_service.specs.UnderWay.{HostsInRun, IsKnownAs}
use Rattle.request_service.specs.declared.service.Origin.{Origin}
use Rattle.request_service.specs.declared.service.Work.TheVariants.{Between}
use Rattle.service_laws.proofs.Building.{built_dup_serves, built_drop_serves, built_keep_serves}
use Rattle.service_laws.proofs.Staying.{served_stays}
use Rattle.service_laws.specs.Serving.{IsAtWork, IsServing, is_answer_by}
use Rattle.service_model.specs.Going.{WentBy}
use Rattle.service_model.specs.Ticking.{IsTaking}
use Rattle.stay_laws.proofs.Leaves as leaves
use Rattle.stay_laws.proofs.Parks.{parks_others, takes}
use Rattle.stay_laws.proofs.Settled.{settled_built}
use Rattle.stay_laws.proofs.Turning as turning

-- ---- the journal

built_serves_on : (sizes : Extents) (s : State) (c k d : ℕ) (twice : Bool) (last : Option ℕ)
    (t : State) (i : ℕ) (x : ContextState) →
    after_all sizes s (built_events c k d twice last) ≡ Some t → IsAtWork s i c x →
    IsServing t i c (record x { layer = Some k })
built_serves_on sizes s c k d true last t i x h w = built_dup_serves sizes s c k d t i x h w
built_serves_on sizes s c k d false None t i x h w = built_keep_serves sizes s c k d t i x h w
built_serves_on sizes s c k d false (Some j) t i x h w =
    built_drop_serves sizes s c k d j t i x h w

none_answers : (m c k d : ℕ) (twice : Bool) (last : Option ℕ) →
    list_any (is_answer_by m) (built_events c k d twice last) ≡ false
none_answers m c k d true last = refl
none_answers m c k d false None = refl
none_answers m c k d false (Some j) = refl

some_built : (c k d : ℕ) (twice : Bool) (last : Option ℕ) → built_events c k d twice last ≢ []
some_built c k d true last = λ e. cc
some_built c k d false None = λ e. cc
some_built c k d false (Some j) = λ e. cc

function_at : (s t : State) (i : ℕ) → t.requests ≡ s.requests →
    request_function t i ≡ request_function s i
unfolding request_function
function_at s t i e = rw e refl

known_at : (s t : State) (i : ℕ) → t.requests ≡ s.requests → service_of t i ≡ service_of s i
unfolding service_of
known_at s t i e = rw e refl

-- ---- the place

-- a layer stands above all that is below it
rises : (place : Option ℕ) (k : ℕ) → IfSome place (λ j. j < k) → level_of place < k + 1
rises None k h = omega arith
rises (Some j) k h = omega (arith, h)

below_first : (below : Option ℕ) (k : ℕ) (P : ℕ → Type 0) → IfSome below (λ l. (l < k) × P l) →
    IfSome below (λ l. l < k)
below_first None k P h = tt
below_first (Some l) k P h = h.0

climbs_up : (plan : Outline) (f : ℕ) (place : Option ℕ) (k : ℕ) → IsPlan plan →
    StandsAbove plan f place k → level_of place < k + 1
climbs_up plan f place k is a = rises place k (subst (λ o. IfSome o (λ j. j < k)) a.below_is
    (below_first a.layer.below k _ (is.parts.layers k a.layer a.layer_is).below))

-- ---- the context

module _ {S L H : Type 0} (plan : Outline) (telling : Telling S) (o : Origin) (c : ContextView S)
    (k pages : ℕ) (s : S) (twice : Bool) (last : Option ℕ)
    (old new : Shared (ContextView S) L H)
    (reached : after_all old.sizes (at_first old.sizes) old.events ≡ Some old.state)
    (hosts : HostsInRun plan telling o.i c old)
    (above : StandsAbove plan c.function c.layer k)
    (on_way : IsOnStack c.plan c.function (Some k))
    (went : WentBy (built_events c.id k pages twice last) old new) where
  -- the context as it stands at the layer
  abbrev pub climbed : ContextView S
  climbed = record c { layer = Some k; still = true; space = s }

  same_requests : new.state.requests ≡ old.state.requests
  same_requests = turning.built_leaves old.sizes old.state c.id k pages twice last new.state
      went.legal

  hosts_on : c.served ≡ [] → telling.spares s ≡ telling.spares c.space →
      telling.pin s ≡ None → Hosts plan telling o.i climbed new
  unfolding givens
  hosts_on unused spares loose = record {
    in_service = record {
      is_usable = record {
        plan_is = hosts.in_service.is_usable.plan_is;
        still = refl;
        uses_are = hosts.in_service.is_usable.uses_are;
        usable = hosts.in_service.is_usable.usable;
      };
      stands = inr (
        unused,
        subst (λ p. IsOnStack p c.function (Some k))
            hosts.in_service.is_usable.plan_is on_way,
      );
    };
    state = record hosts.state { layer = Some k };
    serving = built_serves_on old.sizes old.state c.id k pages twice last new.state o.i
        hosts.state went.legal hosts.serving.work;
    function_is = function_at old.state new.state o.i same_requests ∙ hosts.function_is;
    noted = record {
      number = hosts.noted.number;
      for_function = hosts.noted.for_function;
      place = refl;
      bare = spares ∙ hosts.noted.bare;
      in_order = hosts.noted.in_order ∙ (ap (λ ns. givens old.started ns)
          (sym (served_stays old.sizes old.events old.state (built_events c.id k pages twice last)
          new.state c.id reached went.legal (none_answers c.id c.id k pages twice last)))
          ∙ ap (λ gs. givens gs (served new.state c.id)) (sym went.started_stay));
    };
    loose = loose;
  }

  -- the request goes on above the layer
  pub climbs_on : IsPlan plan → IsKnownAs o old.state → c.served ≡ [] →
      telling.spares s ≡ telling.spares c.space → telling.pin s ≡ None → (count : ℕ) →
      IsTaking plan k pages count →
      Climbs plan telling o.i c.layer count (record { origin = o; work = Between climbed }) old new
  climbs_on is known unused spares loose count taking = record {
    events = built_events c.id k pages twice last;
    some = some_built c.id k pages twice last;
    goes = record {
      went = went;
      others = leaves.built_leaves old.sizes old.events old.state c.id k pages twice last
          new.state o.i hosts.state reached went.legal hosts.serving;
      settled = λ h. settled_built old.sizes old.state c.id k pages twice last new.state h
          went.legal;
      parks = λ ok. (parks_others plan.numbers ok o.i 0 k c.id 0 pages None twice last None).3;
      took_is = (takes plan k pages count c.id twice last taking).1;
      turns = turning.stays_open o.i old.state new.state hosts.serving.work.open_one
          same_requests;
    };
    number_is = refl;
    under_way = λ ports. record {
      known = known_at old.state new.state o.i same_requests ∙ known;
      at_it = hosts_on unused spares loose;
    };
    none_counted = refl;
    climbs = climbs_up plan c.function c.layer k is above;
  }
