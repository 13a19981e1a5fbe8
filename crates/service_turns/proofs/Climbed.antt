-- What comes of the end of a run is a turn.
use Rattle.std.proofs.Common.{◌≡◌, ℕ, ◌+◌, ◌<◌, Option, sym, ◌∙◌, ap, subst}
use Rattle.book_model.specs.Shared.{Shared}
use Rattle.context_runs.specs.declared.layer_run.LayerRun.{LayerRun}
use Rattle.context_runs.specs.declared.request_run.RequestRun.{RequestRun}
use Rattle.context_uc.specs.Views.{ContextView, level_of}
use Rattle.deployer.specs.Hosting.{Telling}
use Rattle.hyper_calls.specs.Exchange.{Exchange}
use Rattle.journal_model.specs.declared.answer.Answer.{Answer}
use Rattle.plan_model.specs.Outline.{Outline}
use Rattle.request_service.specs.Climbing.{ClimbsTo}
use Rattle.request_service.specs.Turns.{TurnsTo}
use Rattle.request_service.specs.UnderWay.{counted_in, level_in}
use Rattle.request_service.specs.declared.service.Turned.{Turned}
use Rattle.request_service.specs.declared.service.Turned.TheVariants.{Went, Answered}
use Rattle.request_service.specs.declared.service.Work.TheVariants.{Layer, Request}
use Rattle.service_requests.specs.Requesting.{IsAnswered}
use Rattle.service_turns.proofs.Running.{loses, none_more}

module _ {S L H : Type 0} (plan : Outline) (telling : Telling S) (pause : Option ℕ) (i : ℕ)
    (c : ContextView S) (from ticks : ℕ) (ports : Exchange)
    (old new : Shared (ContextView S) L H) where
  -- the run of a layer ended
  pub layer_ended : (run : LayerRun) (place : Option ℕ) (done : ℕ) → place ≡ c.layer →
      ticks + run.done ≡ from + done → (turned : Turned (ContextView S) S) →
      ClimbsTo plan telling i place done turned old new →
      TurnsTo plan telling pause i (Layer c run) from turned ports ticks old new
  layer_ended run place done same ticked (Went next) climbs = record {
    events = climbs.events;
    took = done;
    goes = climbs.goes;
    number_is = climbs.number_is;
    under_way = climbs.under_way ports;
    ticks_are = none_more ticks from run.done done (counted_in next.work) ticked
        climbs.none_counted;
    progress = λ e. absurd (climbs.some e);
    climbs = λ ne. subst (λ p. level_of p < level_in next.work) same climbs.climbs;
  }
  layer_ended run place done same ticked (Answered answer) lost =
      loses plan telling pause i (Layer c run) from ticks ports old new answer lost

  -- the run of a request ended
  pub request_ended : (run : RequestRun) (done : ℕ) → ticks + run.done ≡ from + done →
      (answer : Answer) → IsAnswered plan i done answer old new →
      TurnsTo plan telling pause i (Request c run) from (Answered answer) ports ticks old new
  request_ended run done ticked answer is = record {
    events = is.events;
    closes = is.closes;
    ticks_are = λ r. ticked ∙ ap (λ n. from + n) (sym (is.steps_are r));
  }
