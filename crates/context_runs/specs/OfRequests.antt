-- The run of a request on a context: where it is, how it ends, and what it is answered.
use Rattle.std.specs.Prelude.{◌≡◌, ◌<◌, ◌≤◌, true, [], ◌∷◌, ◌++◌, Option, None, Some}
use Rattle.std.specs.Prelude.{length}
use Rattle.hyper_calls.specs.Exchange.{Exchange}
use Rattle.journal_model.specs.declared.answer.End.{End}
use Rattle.journal_model.specs.declared.answer.End.TheVariants as end
use Rattle.layer_model.specs.Replies.{IsContext, IsReply, IsRequestRun, Ending, Ran}
use Rattle.layer_model.specs.Replies.{NoLayer, Reply, request_limits}
use Rattle.machine_model.specs.Machine.{Machine}
use Rattle.machine_model.specs.declared.stop.Stop.{Stop}
use Rattle.machine_model.specs.declared.stop.Stop.TheVariants as stop
use Rattle.space_api.specs.Flat.{Flat, machine_of}
use Rattle.space_api.specs.declared.given.Given.{Given}
use Rattle.context_uc.specs.Views.{ContextView}
use Rattle.context_runs.specs.OfLayers.{IsTop, stop_of_why}
use Rattle.context_runs.specs.SoFar.{IsSoFar}
use Rattle.context_runs.specs.declared.part.PartEnd.{PartEnd}
use Rattle.context_runs.specs.declared.part.PartEnd.TheVariants as part
use Rattle.context_runs.specs.declared.replying.RunReply.{RunReply}
use Rattle.context_runs.specs.declared.request_run.RequestRun.{RequestRun}

-- ---- its run

-- the context stands at its function's layer, and may serve a request more
pub record MayServe {S : Type 0} (c : ContextView S) : Type 0 where
  pub top : IsTop c.plan c.function c.layer
  pub room : length c.served < c.uses

-- The run of the request is so far, from the context that served those before.
pub record IsRequestUnderWay {S : Type 0} (c : ContextView S) (flat : Flat) (ports : Exchange)
    (run : RequestRun) : Type 0 where
  pub may : MayServe c
  pub context : Machine
  pub context_is : IsContext c.plan may.top.layer.start c.layer c.served context
  pub clock_is : ports.clock ≡ run.given.clock
  pub within : run.done ≤ c.plan.numbers.budget
  pub so_far : IsSoFar run.given.clock (request_limits c.plan) context (run.given.packet ∷ [])
      run.done (machine_of c.hart flat ports.traffic)

-- The run of the request stopped so, from the context that served those before.
pub record HasEnded {S : Type 0} (c : ContextView S) (flat : Flat) (ports : Exchange)
    (run : RequestRun) (why : Stop) : Type 0 where
  pub may : MayServe c
  pub context : Machine
  pub context_is : IsContext c.plan may.top.layer.start c.layer c.served context
  pub run_is : IsRequestRun c.plan context run.given
      (record { stop = why; number = run.done; machine = machine_of c.hart flat ports.traffic })

-- a part of the request's run ends so
abbrev pub EndsRequestPart : {S : Type 0} → ContextView S → Flat → Exchange → RequestRun →
    PartEnd → Type 0
EndsRequestPart c flat ports run (part.Stopped why) = HasEnded c flat ports run why
EndsRequestPart c flat ports run part.Paused = IsRequestUnderWay c flat ports run
EndsRequestPart c flat ports run part.Memory = IsRequestUnderWay c flat ports run

-- ---- what it is answered

-- how the model says that a request ended; a request that was refused, or found no memory, it
-- doesn't know
abbrev pub ending_of : End → Option Ending
ending_of end.Ok = Some (Ran stop.Rest)
ending_of (end.Halt code) = Some (Ran (stop.Halt code))
ending_of (end.Fault cause pc tval) = Some (Ran (stop.Exception cause pc tval))
ending_of end.Budget = Some (Ran stop.Budget)
ending_of (end.NoLayer k why) = Some (NoLayer k (stop_of_why why))
ending_of end.Frames = None
ending_of end.Memory = None

-- the model's reply of the ending that shows so many instructions, packets and console bytes
abbrev pub reply_of : Ending → RunReply → Reply
reply_of ending r = record {
  ending = ending;
  number = r.steps;
  packets = r.net;
  console = r.console;
}

-- the context's reply to the request, which ended so
pub record Replies {S : Type 0} (c : ContextView S) (given : Given) (ending : Ending)
    (r : RunReply) : Type 0 where
  pub ending_is : ending_of r.end ≡ Some ending
  pub reply_is : IsReply c.plan c.function c.layer c.served given (reply_of ending r)

-- the context after a request's run that stopped so: between runs again, with the request served,
-- where that rested
abbrev pub after_stop : {S : Type 0} → Stop → Given → ContextView S → ContextView S
after_stop stop.Rest given c = record c { served = c.served ++ given ∷ []; still = true }
after_stop stop.Trigger given c = c
after_stop stop.Budget given c = c
after_stop (stop.Exception cause pc tval) given c = c
after_stop (stop.Halt code) given c = c
