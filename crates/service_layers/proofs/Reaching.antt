-- A layer that was captured may be kept, and its context goes on above it.
use Rattle.std.proofs.Common.{◌≡◌, ℕ, Bool, true, false, [], Option, None, Some, IfSome}
use Rattle.std.proofs.Common.{sym, ◌∙◌, ap, subst, arith}
use Rattle.book_model.specs.Shared.{Shared}
use Rattle.book_model.specs.Steps.{built_events, is_kept, last_kept}
use Rattle.context_runs.specs.OfLayers.{IsOnStack, StandsAbove}
use Rattle.context_uc.specs.Takes.{IsTaken}
use Rattle.context_uc.specs.Views.{ContextView, LayerView}
use Rattle.deployer.proofs.Deployed.{stack_there}
use Rattle.deployer.specs.Grounds.{IsSizedBy}
use Rattle.deployer.specs.Hosting.{Telling}
use Rattle.deployer.specs.Layering.{IsAbove}
use Rattle.journal_model.specs.Legal.{after_all, at_first, may_build}
use Rattle.journal_model.specs.State.{layer_above, stack_of}
use Rattle.plan_model.specs.Outline.{IsPlan}
use Rattle.request_service.specs.Climbing.{Climbs}
use Rattle.request_service.specs.Ending.{IsHeldBy}
use Rattle.request_service.specs.UnderWay.{HostsInRun, IsKnownAs}
use Rattle.request_service.specs.declared.service.Origin.{Origin}
use Rattle.request_service.specs.declared.service.Work.TheVariants.{Between}
use Rattle.service_laws.proofs.Building.{serving_builds}
use Rattle.service_laws.specs.Serving.{IsServing}
use Rattle.service_layers.proofs.Standing.{climbs_on}
use Rattle.service_model.specs.Going.{WentBy}
use Rattle.service_model.specs.Ticking.{IsTaking}
use Rattle.space_api.specs.Holding.{Holding, Pin}
use Rattle.space_api.specs.Stores.{Frozen, Spaced, WasFrozen, WentOn}

-- over copied pages no spare goes
pub no_spare : (takes : Bool) (old new : Spaced) → takes ≡ false → WentOn takes old new →
    new.spares ≡ old.spares
no_spare true old new e h = cc
no_spare false old new e h = let s = h.spare_goes in omega (arith, s)

module _ {S L H : Type 0} (telling : Telling S) (o : Origin) (c : ContextView S) (k : ℕ)
    (old : Shared (ContextView S) L H) (hosts : HostsInRun c.plan telling o.i c old)
    (above : StandsAbove c.plan c.function c.layer k) where
  -- the layer above the context may be built
  pub may_keep : IsSizedBy c.plan old.sizes → may_build old.sizes old.state c.id k ≡ true
  may_keep sized = serving_builds old.sizes old.state o.i c.id k hosts.state hosts.serving
      (subst (λ p. layer_above p (stack_of old.sizes hosts.state.function) ≡ Some k)
      hosts.noted.place (subst (λ f. layer_above c.layer (stack_of old.sizes f) ≡ Some k)
      hosts.noted.for_function (subst (λ f. layer_above c.layer (stack_of old.sizes f) ≡ Some k)
      hosts.function_is (ap (λ xs. layer_above c.layer xs) (stack_there c.plan old.sizes c.function
      above.function above.top sized above.function_is old.state o.i hosts.function_is)
      ∙ above.above_is))))

  -- what didn't change but for its space is still held by the request
  pub held_same : (d : ContextView S) → d ≡ record c { space = d.space } →
      IsKnownAs o old.state → IsHeldBy o d.id old
  held_same d same known = record {
    known = known;
    state = hosts.state;
    serving = subst (λ (n : ℕ). IsServing old.state o.i n hosts.state)
        (sym (ap (λ (v : ContextView S). v.id) same)) hosts.serving;
  }

  pub climbs_reached : {Z : Type 0} (d : ContextView S) (layer : LayerView Z) (pages count : ℕ)
      (new : Shared (ContextView S) L H) →
      after_all old.sizes (at_first old.sizes) old.events ≡ Some old.state → IsPlan c.plan →
      IsKnownAs o old.state → c.served ≡ [] → IsOnStack c.plan c.function (Some k) →
      IsTaken k c layer d →
      telling.spares d.space ≡ telling.spares c.space → telling.pin d.space ≡ None →
      IsTaking c.plan k pages count →
      IfSome layer.number (λ j. WentBy (built_events d.id j pages (is_kept j old) (last_kept old))
      old new) → Climbs c.plan telling o.i c.layer count
      (record { origin = o; work = Between d }) old new
  climbs_reached d layer pages count new reached is known unused on_way taken spares loose
      taking went =
      subst (λ x. Climbs c.plan telling o.i c.layer count (record {
        origin = o;
        work = Between x;
      }) old new) (sym taken.context_is) (climbs_on c.plan telling o c k pages d.space
      (is_kept k old) (last_kept old) old new reached hosts above on_way
      (subst (λ n. WentBy (built_events n k pages (is_kept k old) (last_kept old)) old new)
      (ap (λ (v : ContextView S). v.id) taken.context_is)
      (subst (λ m. IfSome m (λ j. WentBy (built_events d.id j pages (is_kept j old)
      (last_kept old)) old new)) taken.number_is went)) is known unused spares loose count taking)

module _ {S Z H : Type 0} (telling : Telling S) (o : Origin) (c : ContextView S) (k : ℕ)
    (old : Shared (ContextView S) (LayerView Z) H)
    (hosts : HostsInRun c.plan telling o.i c old)
    (above : StandsAbove c.plan c.function c.layer k) where
  -- the layer that was taken may be kept
  pub may_keep_taken : (told : Z → Frozen) (pin : Z → Option Pin)
      (held : Holding) (takes : Bool) (spaced : Spaced) (space_held new_held : Holding)
      (d : ContextView S) (layer : LayerView Z) → IsSizedBy c.plan old.sizes →
      IsTaken k c layer d →
      WasFrozen takes spaced space_held (told layer.frozen) held new_held →
      held.pin ≡ pin layer.frozen → IsAbove told pin d.id layer old
  may_keep_taken told pin held takes spaced space_held new_held d layer sized taken was pin_is =
      record {
        number = k;
        number_is = taken.number_is;
        may = subst (λ (n : ℕ). may_build old.sizes old.state n k ≡ true)
            (sym (ap (λ (v : ContextView S). v.id) taken.context_is))
            (may_keep telling o c k old hosts above sized);
        built = ap (λ (z : Frozen). z.image) was.kept_is;
        loose = sym pin_is ∙ ap (λ (h : Holding). h.pin) was.kept_holds;
      }
