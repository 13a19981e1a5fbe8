-- The run of a request, and what it is answered, by what is known of the context.
use Rattle.std.proofs.Common.{◌≡◌, ◌≢◌, ℕ, ◌≤◌, Bool, true, false, MatchBool, List, []}
use Rattle.std.proofs.Common.{◌∷◌, None, Some, refl, ap, sym, ◌∙◌}
use Rattle.std.proofs.Common.{subst, arith}
use Rattle.hyper_calls.specs.Exchange.{Exchange, starting}
use Rattle.layer_model.specs.Layers.{IsNoLayer}
use Rattle.layer_model.specs.Replies.{IsContext, IsRequestRun, By_miss, By_run}
use Rattle.layer_model.specs.Replies.{NoLayer, Ran, Reply, request_limits}
use Rattle.machine_model.specs.Hypercall.{Outcome, outcome}
use Rattle.machine_model.specs.Hypercall as hyper
use Rattle.machine_model.specs.Instruction.{Next}
use Rattle.machine_model.specs.Instruction as instruction
use Rattle.machine_model.specs.Machine.{Machine}
use Rattle.machine_model.specs.Run.{End, IsStop, Limits, Runs, Stops}
use Rattle.machine_model.specs.Run.{at_trigger, turn_by, turn_of}
use Rattle.machine_model.specs.Run.{By_trigger, By_budget, By_turn}
use Rattle.machine_model.specs.declared.stop.Stop.{Stop}
use Rattle.machine_model.specs.declared.stop.Stop.TheVariants as stop
use Rattle.plan_model.specs.declared.layer.PlanLayer.{PlanLayer}
use Rattle.space_api.specs.Flat.{Flat, machine_of}
use Rattle.space_api.specs.declared.given.Given.{Given}
use Rattle.context_uc.specs.Runs.{HasRested}
use Rattle.context_uc.specs.Views.{ContextView, IsModel, silent}
use Rattle.context_runs.proofs.Layering.{one_top}
use Rattle.context_runs.specs.OfLayers.{StandsAbove}
use Rattle.context_runs.specs.OfRequests.{EndsRequestPart, HasEnded, IsRequestUnderWay, MayServe}
use Rattle.context_runs.specs.OfRequests.{Replies, ending_of}
use Rattle.context_runs.specs.SoFar.{EndsPart, IsSoFar, Begun}
use Rattle.context_runs.specs.declared.part.PartEnd.{PartEnd}
use Rattle.context_runs.specs.declared.part.PartEnd.TheVariants as part
use Rattle.context_runs.specs.declared.replying.RunReply.{RunReply}
use Rattle.context_runs.specs.declared.request_run.RequestRun.{RequestRun}

-- the run of the request begins
pub request_begins : {S : Type 0} (c : ContextView S) (flat : Flat) (ports : Exchange)
    (given : Given) (packets : List (List ℕ)) → MayServe c → (c.still ≡ true
    → IsModel c.plan c.function c.layer c.served (machine_of c.hart flat silent))
    → c.still ≡ true → packets ≡ given.packet ∷ [] → ports ≡ starting given.clock packets
    → IsRequestUnderWay c flat ports (record { given = given; done = 0 })
request_begins c flat ports given packets may model still packets_are ports_are =
    let ports_is : ports ≡ starting given.clock (given.packet ∷ [])
    = ports_are ∙ ap (starting given.clock) packets_are in
    let m = model still in
    let tops = one_top c.plan c.function m.function may.top.function m.layer may.top.layer
    m.function_is may.top.function_is in
    record {
      may = may;
      context = machine_of c.hart flat silent;
      context_is = subst (λ (l : PlanLayer).
          IsContext c.plan l.start c.layer c.served (machine_of c.hart flat silent)) tops
          m.context_is;
      clock_is = ap (λ (x : Exchange). x.clock) ports_is;
      within = omega arith;
      so_far = Begun refl (ap (λ (x : Exchange). machine_of c.hart flat x.traffic) ports_is);
    }

-- it may serve the request still, once it ran
may_still : {S : Type 0} (c new : ContextView S) → MayServe c
    → MayServe (record c { still = false; hart = new.hart; space = new.space })
may_still c new may = record { top = may.top; room = may.room }

-- where the run is after a part, by how that ended
request_went : {S : Type 0} (c new : ContextView S) (flat new_flat : Flat)
    (ports new_ports : Exchange) (run : RequestRun) (done : ℕ) (p : PartEnd)
    (u : IsRequestUnderWay c flat ports run) → new_ports.clock ≡ ports.clock
    → done ≤ c.plan.numbers.budget
    → EndsPart run.given.clock (request_limits c.plan) u.context (run.given.packet ∷ []) p done
    (machine_of new.hart new_flat new_ports.traffic)
    → EndsRequestPart (record c { still = false; hart = new.hart; space = new.space }) new_flat
    new_ports (record { given = run.given; done = done }) p
unfolding may_still
request_went c new flat new_flat ports new_ports run done (part.Stopped why) u clock within ends =
    record {
      may = may_still c new u.may;
      context = u.context;
      context_is = u.context_is;
      run_is = ends;
    }
request_went c new flat new_flat ports new_ports run done part.Paused u clock within ends =
    record {
      may = may_still c new u.may;
      context = u.context;
      context_is = u.context_is;
      clock_is = clock ∙ u.clock_is;
      within = within;
      so_far = ends;
    }
request_went c new flat new_flat ports new_ports run done part.Memory u clock within ends =
    record {
      may = may_still c new u.may;
      context = u.context;
      context_is = u.context_is;
      clock_is = clock ∙ u.clock_is;
      within = within;
      so_far = ends;
    }

-- a part of the request's run ends as the part of the run does
pub request_goes : {S : Type 0} (c new : ContextView S) (flat new_flat : Flat)
    (ports new_ports : Exchange) (run new_run : RequestRun) (p : PartEnd) (limits : Limits)
    (u : IsRequestUnderWay c flat ports run)
    → new ≡ record c { still = false; hart = new.hart; space = new.space }
    → new_run ≡ record { given = run.given; done = new_run.done }
    → new_ports.clock ≡ ports.clock → new_run.done ≤ c.plan.numbers.budget
    → limits ≡ request_limits c.plan
    → ((m : Machine) (packets : List (List ℕ))
    → IsSoFar ports.clock limits m packets run.done (machine_of c.hart flat ports.traffic)
    → EndsPart ports.clock limits m packets p new_run.done
    (machine_of new.hart new_flat new_ports.traffic))
    → EndsRequestPart new new_flat new_ports new_run p
request_goes c new flat new_flat ports new_ports run new_run p limits u same run_is clock within
    limits_are ends =
    let from = machine_of c.hart flat ports.traffic in
    let to = machine_of new.hart new_flat new_ports.traffic in
    let on : IsSoFar ports.clock limits u.context (run.given.packet ∷ []) run.done from
    → EndsPart ports.clock limits u.context (run.given.packet ∷ []) p new_run.done to
    = ends u.context (run.given.packet ∷ []) in
    let at_limits = subst (λ l. IsSoFar ports.clock l u.context (run.given.packet ∷ []) run.done
    from → EndsPart ports.clock l u.context (run.given.packet ∷ []) p new_run.done to)
    limits_are on in
    let at_clock = subst (λ t. IsSoFar t (request_limits c.plan) u.context
    (run.given.packet ∷ []) run.done from
    → EndsPart t (request_limits c.plan) u.context (run.given.packet ∷ []) p new_run.done to)
    u.clock_is at_limits in
    subst (λ v. EndsRequestPart v new_flat new_ports new_run p) (sym same)
    (subst (λ r. EndsRequestPart (record c { still = false; hart = new.hart; space = new.space })
    new_flat new_ports r p) (sym run_is)
    (request_went c new flat new_flat ports new_ports run new_run.done p u clock within
    (at_clock u.so_far)))

-- ---- no request stops at a trigger

-- no turn does
untriggered_by : (m : Machine) (o : Outcome) (counted : ℕ) (after : Machine)
    → Stops stop.Trigger counted after ≡ turn_by m o → ⊥
untriggered_by m (hyper.Done to) counted after is = cc
untriggered_by m (hyper.Rests to) counted after is = cc
untriggered_by m (hyper.Halts code to) counted after is = cc
untriggered_by m (hyper.Unknown number) counted after is = cc

untriggered_turn : (m : Machine) (clock : ℕ) (next : Next) (counted : ℕ) (after : Machine)
    → Stops stop.Trigger counted after ≡ turn_of m clock next → ⊥
untriggered_turn m clock (instruction.Retires to) counted after is = cc
untriggered_turn m clock (instruction.Raises cause tval) counted after is = cc
untriggered_turn m clock instruction.Calls counted after is =
    untriggered_by m (outcome m clock) counted after is

-- where there is no trigger, no stop is at one
untriggered_stop : (clock : ℕ) (limits : Limits) (number : ℕ) (m : Machine) (e : End)
    → limits.trigger ≡ None → IsStop clock limits number m e → e.stop ≢ stop.Trigger
untriggered_stop clock limits number m e none (By_trigger at) is =
    let no = ap (λ t. at_trigger t number m) (sym none) ∙ at in cc
untriggered_stop clock limits number m e none (By_budget away at) is = cc
untriggered_stop clock limits number m e none
    (By_turn {stop = s} {counted = counted} {after = after} away more turn) is =
    untriggered_turn m clock turn.next counted after
    (ap (λ x. Stops x counted after) (sym is) ∙ turn.turn_is)

untriggered_rest : (e : End) (m : Machine)
    → e ≡ record { stop = stop.Rest; number = 0; machine = m } → e.stop ≢ stop.Trigger
untriggered_rest e m at is =
    let no : stop.Rest ≡ stop.Trigger = sym (ap (λ (x : End). x.stop) at) ∙ is in cc

untriggered_run : (clock : ℕ) (limits : Limits) (m : Machine) (e : End) (test : Bool)
    → limits.trigger ≡ None
    → MatchBool test (e ≡ record { stop = stop.Rest; number = 0; machine = m })
    (Runs clock limits m e) → e.stop ≢ stop.Trigger
untriggered_run clock limits m e true none at = untriggered_rest e m at
untriggered_run clock limits m e false none runs =
    untriggered_stop clock limits runs.number runs.at e none runs.stopped

pub untriggered : {S : Type 0} (c : ContextView S) (flat : Flat) (ports : Exchange)
    (run : RequestRun) (why : Stop) → HasEnded c flat ports run why → why ≢ stop.Trigger
untriggered c flat ports run why h =
    untriggered_run run.given.clock (request_limits c.plan) _ _ _ refl h.run_is

-- ---- what it is answered

-- a run that rested lets the request be noted as served
pub rested : {S : Type 0} (c : ContextView S) (flat : Flat) (ports : Exchange) (run : RequestRun)
    (why : Stop) → HasEnded c flat ports run why → why ≡ stop.Rest → HasRested c flat run.given
rested c flat ports run why h is = record {
  function = h.may.top.function;
  layer = h.may.top.layer;
  function_is = h.may.top.function_is;
  context = h.context;
  context_is = h.context_is;
  counted = run.done;
  traffic = ports.traffic;
  run = subst (λ s. IsRequestRun c.plan h.context run.given
      (record { stop = s; number = run.done; machine = machine_of c.hart flat ports.traffic }))
      is h.run_is;
}

-- what the run shows is the reply
pub replies : {S : Type 0} (c : ContextView S) (flat : Flat) (ports : Exchange)
    (run : RequestRun) (why : Stop) (r : RunReply) → HasEnded c flat ports run why
    → ending_of r.end ≡ Some (Ran why) → r.steps ≡ run.done → r.net ≡ ports.traffic.sent
    → r.console ≡ ports.traffic.console → Replies c run.given (Ran why) r
replies c flat ports run why r h ending_is steps_are net_is console_is = record {
  ending_is = ending_is;
  reply_is = By_run (record {
    function = h.may.top.function;
    layer = h.may.top.layer;
    function_is = h.may.top.function_is;
    place_is = h.may.top.place_is;
    context = h.context;
    context_is = h.context_is;
    stop = why;
    counted = run.done;
    after = machine_of c.hart flat ports.traffic;
    run = h.run_is;
    reply_is =
        ap (λ n. let to : Reply = record {
          ending = Ran why;
          number = n;
          packets = r.net;
          console = r.console;
        } in to) steps_are
        ∙ ap (λ n. let to : Reply = record {
          ending = Ran why;
          number = run.done;
          packets = n;
          console = r.console;
        } in to) net_is
        ∙ ap (λ n. let to : Reply = record {
          ending = Ran why;
          number = run.done;
          packets = ports.traffic.sent;
          console = n;
        } in to) console_is;
  });
}

-- and so is what a layer that isn't there shows
pub misses : {S : Type 0} (c : ContextView S) (given : Given) (number : ℕ) (why : Stop)
    (r : RunReply) → StandsAbove c.plan c.function c.layer number → IsNoLayer c.plan number why
    → ending_of r.end ≡ Some (NoLayer number why) → r.steps ≡ 0 → r.net ≡ [] → r.console ≡ []
    → Replies c given (NoLayer number why) r
misses c given number why r a none ending_is steps_are net_is console_is = record {
  ending_is = ending_is;
  reply_is = By_miss (record {
    function = a.function;
    layer = a.top;
    function_is = a.function_is;
    place_is = a.place_is;
    above = number;
    above_is = a.above_is;
    why = why;
    no_layer = none;
    reply_is =
        ap (λ n. let to : Reply = record {
          ending = NoLayer number why;
          number = n;
          packets = r.net;
          console = r.console;
        } in to) steps_are
        ∙ ap (λ n. let to : Reply = record {
          ending = NoLayer number why;
          number = 0;
          packets = n;
          console = r.console;
        } in to) net_is
        ∙ ap (λ n. let to : Reply = record {
          ending = NoLayer number why;
          number = 0;
          packets = [];
          console = n;
        } in to) console_is;
  });
}
