-- A request goes on in a new context that was deployed for it.
use Rattle.std.proofs.Common.{◌≡◌, ℕ, ◌<◌, [], ◌∷◌, length, Some, IfSome, slice_get}
use Rattle.std.proofs.Common.{refl, sym, ◌∙◌, ap, subst}
use Rattle.book_core.specs.declared.deploying.Deployed.{Deployed as NewContext}
use Rattle.book_model.specs.Shared.{Shared}
use Rattle.context_uc.specs.Views.{ContextView}
use Rattle.deployer.proofs.Deployed.{function_there, stack_there}
use Rattle.deployer.specs.Grounds.{IsSizedBy}
use Rattle.deployer.specs.Hosting.{IsDrawn, IsFresh, Telling}
use Rattle.journal_model.specs.Legal.{after_all, at_first, deployed_how, request_function}
use Rattle.journal_model.specs.declared.event.Event.TheVariants.{Deploy}
use Rattle.layer_model.specs.Replies.{IsFunction}
use Rattle.line_laws.proofs.Known.{deployed_is_known}
use Rattle.plan_model.specs.Outline.{IsPlan, Outline}
use Rattle.plan_model.specs.Stacks.{stack}
use Rattle.plan_model.specs.declared.function.PlanFunction.{PlanFunction}
use Rattle.plan_model.specs.declared.layer.PlanLayer.{PlanLayer}
use Rattle.request_service.specs.Starting.{IsFound}
use Rattle.request_service.specs.Turns.{Goes}
use Rattle.request_service.specs.declared.service.Service.{Service}
use Rattle.request_service.specs.declared.service.Work.TheVariants.{Deployed}
use Rattle.service_model.specs.Going.{WentBy}
use Rattle.stay_laws.proofs.Leaves.{deployed_leaves}
use Rattle.stay_laws.proofs.Settled.{settled_deployed}
use Rattle.stay_laws.proofs.Turning.{deployed_opens}

module _ {S : Type 0} where
  -- the service of request i for a function on the layer by the context that was deployed
  abbrev pub new_service : (plan : Outline) → (i f : ℕ) → (layer : ℕ) → NewContext S →
      Service (ContextView S) S
  new_service plan i f layer d = record {
    origin = record {
      i = i;
      how = deployed_how (stack plan.layers layer) d.from;
      context = d.context;
      used = 0;
    };
    work = Deployed f d;
  }

module _ {S L H : Type 0} (plan : Outline) (telling : Telling S) (i f root : ℕ)
    (d : NewContext S) (old new : Shared (ContextView S) L H)
    (reached : after_all old.sizes (at_first old.sizes) old.events ≡ Some old.state)
    (went : WentBy (Deploy d.context d.from i root ∷ []) old new) where
  deployed_goes : Goes plan i (Deploy d.context d.from i root ∷ []) 0 old new
  deployed_goes = record {
    went = went;
    others = deployed_leaves old.sizes old.events old.state d.context d.from i root new.state
        reached went.legal;
    settled = λ h. settled_deployed old.sizes old.state d.context d.from i root new.state h
        went.legal;
    parks = λ ok. tt;
    took_is = refl;
    turns = deployed_opens old.sizes old.state d.context d.from i root new.state went.legal;
  }

  module _ (sized : IsSizedBy plan old.sizes) (asked : request_function old.state i ≡ f)
      (fresh : IsFresh plan telling f d) (drawn : IsDrawn i f d new) where
    of_function : (function : PlanFunction) (layer : PlanLayer) →
        IsFunction plan f function layer →
        IsFound plan telling i (new_service plan i f function.layer d) old new
    of_function function layer at = record {
      event = Deploy d.context d.from i root;
      goes = deployed_goes;
      number_is = refl;
      under_way = λ ports. record {
        known = deployed_is_known old.sizes old.state d.context d.from i root new.state went.legal
            ∙ ap (λ layers. record {
              how = deployed_how layers d.from;
              context = d.context;
              used = 0;
            }) (stack_there plan old.sizes f function layer sized at old.state i asked);
        at_it = record { fresh = fresh; drawn = drawn };
      };
    }

    -- the new context serves the request
    pub deployed_found : IsPlan plan → f < length plan.functions →
        (next : Service (ContextView S) S) →
        IfSome (slice_get plan.functions f)
        (λ (found : PlanFunction). next ≡ new_service plan i f found.layer d) →
        IsFound plan telling i next old new
    deployed_found is there next h =
        let t = function_there plan f is there in
        let next_is = subst (λ o. IfSome o (λ (found : PlanFunction).
        next ≡ new_service plan i f found.layer d)) t.is.function_is h in
        subst (λ (s : Service (ContextView S) S). IsFound plan telling i s old new) (sym next_is)
        (of_function t.function t.layer t.is)
