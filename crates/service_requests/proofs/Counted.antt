-- A line counts what its request's run counted.
use Rattle.std.proofs.Common.{◌≡◌, refl, ap, sym, subst}
use Rattle.context_runs.specs.OfRequests.{HasEnded, Replies, reply_of}
use Rattle.context_runs.specs.declared.replying.RunReply.{RunReply}
use Rattle.context_runs.specs.declared.request_run.RequestRun.{RequestRun}
use Rattle.context_uc.specs.Views.{ContextView}
use Rattle.hyper_calls.specs.Exchange.{Exchange}
use Rattle.layer_laws.proofs.Answering.{reply_at_layer}
use Rattle.layer_laws.proofs.Determined.{one_reply}
use Rattle.layer_laws.specs.Requests.{run_reply}
use Rattle.layer_model.specs.Replies.{IsContext, IsReply, Ran, Reply}
use Rattle.machine_model.specs.declared.stop.Stop.{Stop}
use Rattle.machine_model.specs.Run.{End}
use Rattle.space_api.specs.Flat.{Flat, machine_of}

module _ {S : Type 0} (c : ContextView S) (flat : Flat) (ports : Exchange) (run : RequestRun)
    (stop : Stop) (h : HasEnded c flat ports run stop) where
  abbrev ended_so : End
  ended_so = record {
    stop = stop;
    number = run.done;
    machine = machine_of c.hart flat ports.traffic;
  }

  -- the reply to the request is what its run shows
  is_replied : IsReply c.plan c.function c.layer c.served run.given (run_reply ended_so)
  is_replied = subst (λ p. IsReply c.plan c.function p c.served run.given (run_reply ended_so))
      (sym h.may.top.place_is) ((reply_at_layer c.plan c.function h.may.top.function
      h.may.top.layer c.served run.given h.context (run_reply ended_so) h.may.top.function_is
      (subst (λ p. IsContext c.plan h.may.top.layer.start p c.served h.context)
      h.may.top.place_is h.context_is)).1 (ended_so, h.run_is, refl))

  pub steps_are : (r : RunReply) → Replies c run.given (Ran stop) r → r.steps ≡ run.done
  steps_are r replies = ap (λ (x : Reply). x.number) (one_reply c.plan c.function c.layer c.served
      run.given (reply_of (Ran stop) r) (run_reply ended_so) replies.reply_is is_replied)
