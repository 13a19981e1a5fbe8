-- A context after a part of its run.
use Rattle.std.proofs.Common.{◌≡◌, ℕ, ◌+◌, ◌-◌, true, false, Option, None, Some, sym, ◌∙◌}
use Rattle.std.proofs.Common.{ap, subst}
use Rattle.book_model.specs.Shared.{Shared}
use Rattle.context_runs.specs.OfLayers.{HasStopped, IsOnStack}
use Rattle.context_runs.specs.OfRequests.{HasEnded}
use Rattle.context_runs.specs.declared.layer_run.LayerRun.{LayerRun}
use Rattle.context_runs.specs.declared.request_run.RequestRun.{RequestRun}
use Rattle.context_uc.specs.Views.{ContextView, LayerView}
use Rattle.deployer.specs.Grounds.{AreGrounds, IsSizedBy}
use Rattle.deployer.specs.Hosting.{Telling}
use Rattle.hyper_calls.specs.Exchange.{Exchange}
use Rattle.journal_model.specs.Legal.{after_all, at_first}
use Rattle.journal_model.specs.declared.answer.Answer.{Answer}
use Rattle.machine_model.specs.declared.stop.Stop.{Stop}
use Rattle.request_service.specs.Climbing.{ClimbsTo}
use Rattle.request_service.specs.Ending.{IsHeldBy}
use Rattle.request_service.specs.Turns.{TurnsTo}
use Rattle.request_service.specs.UnderWay.{HostsInRun, IsKnownAs}
use Rattle.request_service.specs.declared.service.InRun.{InRun}
use Rattle.request_service.specs.declared.service.Origin.{Origin}
use Rattle.request_service.specs.declared.service.Turned.{Turned}
use Rattle.request_service.specs.declared.service.Turned.TheVariants.{Went, Answered}
use Rattle.request_service.specs.declared.service.Work.TheVariants.{Layer, Request}
use Rattle.service_ends.proofs.Due.{held_by}
use Rattle.service_layers.specs.Stopping as layers
use Rattle.service_requests.specs.Requesting as requests
use Rattle.service_requests.specs.Requesting.{IsAnswered}
use Rattle.service_turns.proofs.Climbed.{layer_ended, request_ended}
use Rattle.service_turns.proofs.Running.{hosts_after}
use Rattle.service_turns.specs.Running.{RunsLayer, RunsRequest, TurnsOver}
use Rattle.space_api.specs.Flat.{Flat}

-- the context with another hart and another space, in a run
abbrev pub IsAfter : {S : Type 0} → (c d : ContextView S) → Type 0
IsAfter c d = d ≡ record c { still = false; hart = d.hart; space = d.space }

module _ {S : Type 0} (c d : ContextView S) (same : IsAfter c d) where
  pub same_plan : d.plan ≡ c.plan
  same_plan = ap (λ (x : ContextView S). x.plan) same

  same_layer : d.layer ≡ c.layer
  same_layer = ap (λ (x : ContextView S). x.layer) same

-- the layer is on the way there still
pub way_there : {S : Type 0} (c d : ContextView S) (r q : LayerRun) → IsAfter c d →
    q.number ≡ r.number → IsOnStack c.plan c.function (Some r.number) →
    IsOnStack d.plan d.function (Some q.number)
way_there c d r q same number on = subst (λ (x : ContextView _).
    IsOnStack x.plan x.function (Some q.number)) (sym same)
    (subst (λ n. IsOnStack c.plan c.function (Some n)) (sym number) on)

module _ {S L H : Type 0} (telling : Telling S) (i : ℕ) (c : ContextView S)
    (book : Shared (ContextView S) L H) (hosts : HostsInRun c.plan telling i c book)
    (d : ContextView S) (same : IsAfter c d)
    (spares : telling.spares d.space ≡ telling.spares c.space)
    (loose : telling.pin d.space ≡ None) where
  pub hosts_so : HostsInRun c.plan telling i d book
  hosts_so = hosts_after c.plan telling i c book hosts d same spares loose

  pub hosts_there : HostsInRun d.plan telling i d book
  hosts_there = subst (λ p. HostsInRun p telling i d book) (sym (same_plan c d same)) hosts_so

-- its request is still held by it
pub held_there : {S L H : Type 0} (telling : Telling S) (o : Origin) (c : ContextView S)
    (book : Shared (ContextView S) L H) → HostsInRun c.plan telling o.i c book →
    (d : ContextView S) → IsAfter c d → telling.spares d.space ≡ telling.spares c.space →
    telling.pin d.space ≡ None →
    after_all book.sizes (at_first book.sizes) book.events ≡ Some book.state →
    IsKnownAs o book.state → IsHeldBy o d.id book
held_there telling o c book hosts d same spares loose reached known =
    subst (λ (x : ContextView _). IsHeldBy o x.id book) (sym same)
    (held_by c.plan telling o (record c { still = true }) book reached known hosts)

module _ {S L H : Type 0} (telling : Telling S) (pause : Option ℕ) (i : ℕ)
    (c d : ContextView S) where
  -- what came of the end of a layer's run
  pub layer_stopped : (r q : LayerRun) (from ticks : ℕ) (ports : Exchange)
      (old new : Shared (ContextView S) L H) → IsAfter c d →
      ticks + r.done ≡ from + q.done → (turned : Turned (ContextView S) S) →
      ClimbsTo d.plan telling i d.layer q.done turned old new →
      TurnsTo c.plan telling pause i (Layer c r) from turned ports ticks old new
  layer_stopped r q from ticks ports old new same ticked turned climbs =
      layer_ended c.plan telling pause i c from ticks ports old new r d.layer q.done
      (same_layer c d same) ticked turned
      (subst (λ p. ClimbsTo p telling i d.layer q.done turned old new) (same_plan c d same) climbs)

  -- and of a request's
  request_stopped : (r q : RequestRun) (from ticks : ℕ) (ports : Exchange)
      (old new : Shared (ContextView S) L H) → IsAfter c d →
      ticks + r.done ≡ from + q.done → (answer : Answer) →
      IsAnswered d.plan i q.done answer old new →
      TurnsTo c.plan telling pause i (Request c r) from (Answered answer) ports ticks old new
  request_stopped r q from ticks ports old new same ticked answer is =
      request_ended c.plan telling pause i c from ticks ports old new r q.done ticked answer
      (subst (λ p. IsAnswered p i q.done answer old new) (same_plan c d same) is)

  pub request_turned : (r q : RequestRun) (from ticks : ℕ) (ports : Exchange)
      (old new : Shared (ContextView S) L H) → IsAfter c d →
      ticks + r.done ≡ from + q.done → (turned : Turned (ContextView S) S) →
      TurnsOver d.plan i q.done turned old new →
      TurnsTo c.plan telling pause i (Request c r) from turned ports ticks old new
  request_turned r q from ticks ports old new same ticked (Went next) over = absurd over
  request_turned r q from ticks ports old new same ticked (Answered answer) over =
      request_stopped r q from ticks ports old new same ticked answer over

-- what the end of a layer's run asks
pub layer_may_end : {S Z H : Type 0} (telling : Telling S) (flat : Z → Flat)
    (is_context : ContextView S → Type 0) (is_layer : LayerView Z → Type 0)
    (at : InRun (ContextView S) LayerRun) (ports : Exchange)
    (book : Shared (ContextView S) (LayerView Z) H) →
    RunsLayer telling flat is_context is_layer at ports book →
    (d : ContextView S) (q : LayerRun) → IsAfter at.context d →
    telling.spares d.space ≡ telling.spares at.context.space → telling.pin d.space ≡ None →
    q.number ≡ at.run.number → (stop : Stop) → HasStopped d (telling.flat d.space) q stop →
    layers.MayEnd telling flat is_context is_layer
    (record { origin = at.origin; context = d; run = q }) stop book
layer_may_end telling flat is_context is_layer at ports book runs d q same
    spares loose number stop stopped = record {
      sizes = subst (λ p. IsSizedBy p book.sizes) (sym (same_plan at.context d same)) runs.sizes;
      grounds = subst (λ p. AreGrounds p flat is_context is_layer)
          (sym (same_plan at.context d same)) runs.grounds;
      known = runs.known;
      hosts = hosts_there telling at.origin.i at.context book runs.at_it.hosts d same spares loose;
      on_way = way_there at.context d at.run q same number runs.at_it.on_way;
      stopped = stopped;
    }

-- and that of a request's
pub request_may_end : {S Z H : Type 0} (telling : Telling S) (flat : Z → Flat)
    (is_context : ContextView S → Type 0) (is_layer : LayerView Z → Type 0)
    (at : InRun (ContextView S) RequestRun) (ports : Exchange)
    (book : Shared (ContextView S) (LayerView Z) H) →
    RunsRequest telling flat is_context is_layer at ports book →
    (d : ContextView S) (q : RequestRun) → IsAfter at.context d →
    telling.spares d.space ≡ telling.spares at.context.space → telling.pin d.space ≡ None →
    q.given ≡ at.run.given → (after : Exchange) (stop : Stop) →
    HasEnded d (telling.flat d.space) after q stop →
    requests.MayEnd telling flat is_context is_layer
    (record { origin = at.origin; context = d; run = q }) after stop book
request_may_end telling flat is_context is_layer at ports book runs d q same
    spares loose given after stop ended = record {
      sizes = subst (λ p. IsSizedBy p book.sizes) (sym (same_plan at.context d same)) runs.sizes;
      grounds = subst (λ p. AreGrounds p flat is_context is_layer)
          (sym (same_plan at.context d same)) runs.grounds;
      known = runs.known;
      hosts = hosts_there telling at.origin.i at.context book runs.at_it.hosts d same spares loose;
      own = runs.at_it.own ∙ ap Some (sym given);
      ended = ended;
    }
