use denote.Param.Send.{given_send, param_send}
use Rattle.std.proofs.Common.{refl, ap}
use Rattle.space_api.specs.Holding.{Holding}
use Rattle.service_turns.proofs.Ended.{held_there, hosts_so, layer_may_end, layer_stopped}
use Rattle.service_turns.proofs.Ended.{way_there}
use Rattle.service_turns.proofs.Out.{some_first}
use Rattle.service_turns.proofs.Running.{loses, ok_so, pauses}
use Rattle.service_runs.proofs.Losing.{lost_so}
use Rattle.request_service.specs.declared.service.Work.TheVariants.{Layer}
use Rattle.service_turns.proofs.turning.turn_in_layer.Goals as goal

pub go-requires-clause-loose : goal.go-requires-clause-loose
go-requires-clause-loose g c = c.requires.runs.at_it.hosts.loose

pub go-requires-clause-under_way : goal.go-requires-clause-under_way
go-requires-clause-under_way g c = c.requires.runs.at_it.under_way

pub end_layer-requires : goal.end_layer-requires
end_layer-requires g c κs = (
  param_send 2 _ (given_send 3 _ g.row.T-Space c.type_bounds.send-T-Space),
  (
    param_send 3 _ (given_send 4 _ g.row.T-Frozen c.type_bounds.send-T-Frozen),
    (
      param_send 4 _ (given_send 5 _ g.row.T-Shelf c.type_bounds.send-T-Shelf),
      (
        param_send 5 _ (given_send 6 _ g.row.T-Spares c.type_bounds.send-T-Spares),
        (
          (refl, tt),
          (
            c.requires.copied,
            layer_may_end (record {
              flat = g.T.Space.Space.flat;
              spares = g.T.Space.Space.spares;
              finished = g.T.Space.Space.finished;
              pin = g.T.Space.Held.pin;
            }) g.T.Frozen.FrozenMemory.flat
                g.G.Grounds.is_context g.G.Grounds.is_layer c.args.at c.args.ports.now
                c.args.book.now
                c.requires.runs c.go.new.context c.go.new.self
                c.go.ensures.same c.go.ensures.held.1
                (ap (λ (h : Holding). h.pin) c.go.ensures.held.2) c.go.ensures.number
                c.in-Stopped.stop c.in-Stopped.ensures.ends,
          ),
        ),
      ),
    ),
  ),
)

pub lose_context-requires : goal.lose_context-requires
lose_context-requires g c κs = (
  param_send 2 _ (given_send 3 _ g.row.T-Space c.type_bounds.send-T-Space),
  (
    param_send 3 _ (given_send 4 _ g.row.T-Frozen c.type_bounds.send-T-Frozen),
    (
      param_send 4 _ (given_send 5 _ g.row.T-Shelf c.type_bounds.send-T-Shelf),
      (
        param_send 5 _ (given_send 6 _ g.row.T-Spares c.type_bounds.send-T-Spares),
        (
          (refl, tt),
          (
            c.requires.copied,
            (
              c.requires.runs.sizes.root,
              (
                held_there (record {
                  flat = g.T.Space.Space.flat;
                  spares = g.T.Space.Space.spares;
                  finished = g.T.Space.Space.finished;
                  pin = g.T.Space.Held.pin;
                }) c.args.at.origin c.args.at.context c.args.book.now
                    c.requires.runs.at_it.hosts c.go.new.context c.go.ensures.same
                    c.go.ensures.held.1
                    (ap (λ (h : Holding). h.pin) c.go.ensures.held.2)
                    c.is_sound.ensures.held.log.reached c.requires.runs.known,
                (ap (λ (h : Holding). h.pin) c.go.ensures.held.2),
              ),
            ),
          ),
        ),
      ),
    ),
  ),
)

pub returns-in-Stopped-clause-turns : goal.returns-in-Stopped-clause-turns
returns-in-Stopped-clause-turns g c = ok_so c.end_layer.result _ _
    (layer_stopped (record {
      flat = g.T.Space.Space.flat;
      spares = g.T.Space.Space.spares;
      finished = g.T.Space.Space.finished;
      pin = g.T.Space.Held.pin;
    }) c.args.pause c.args.at.origin.i c.args.at.context c.go.new.context
    c.args.at.run c.go.new.self c.args.steps.now c.go.new.steps c.go.new.ports c.args.book.now
    c.end_layer.new.book c.go.ensures.same c.go.ensures.ticks) c.end_layer.ensures.climbs

pub returns-in-Paused-clause-turns : goal.returns-in-Paused-clause-turns
returns-in-Paused-clause-turns g c = pauses c.args.at.context.plan (record {
  flat = g.T.Space.Space.flat;
  spares = g.T.Space.Space.spares;
  finished = g.T.Space.Space.finished;
  pin = g.T.Space.Held.pin;
})
    c.args.pause c.args.at.origin.i (Layer c.args.at.context c.args.at.run) c.args.steps.now
    c.go.new.steps c.go.new.ports c.args.book.now c.args.book.now (record {
      origin = c.args.at.origin;
      work = Layer c.go.new.context c.go.new.self;
    }) refl c.requires.runs.at_it.hosts.serving.work.open_one refl (record {
      known = c.requires.runs.known;
      at_it = record {
        hosts = hosts_so (record {
          flat = g.T.Space.Space.flat;
          spares = g.T.Space.Space.spares;
          finished = g.T.Space.Space.finished;
          pin = g.T.Space.Held.pin;
        }) c.args.at.origin.i c.args.at.context c.args.book.now
            c.requires.runs.at_it.hosts c.go.new.context c.go.ensures.same c.go.ensures.held.1
            (ap (λ (h : Holding). h.pin) c.go.ensures.held.2);
        on_way = way_there c.args.at.context c.go.new.context c.args.at.run c.go.new.self
            c.go.ensures.same c.go.ensures.number c.requires.runs.at_it.on_way;
        under_way = c.in-Paused.ensures.ends;
      };
    }) c.go.ensures.ticks c.go.ensures.within.0 (some_first _
    c.requires.runs.at_it.under_way.is_above.above.layer _ _
    c.requires.runs.at_it.under_way.is_above.above.layer_is c.in-Paused.ensures.in_time)

pub returns-in_ok-answer-in-Memory-clause-turns :
    goal.returns-in_ok-answer-in-Memory-clause-turns
returns-in_ok-answer-in-Memory-clause-turns g c = loses c.args.at.context.plan (record {
  flat = g.T.Space.Space.flat;
  spares = g.T.Space.Space.spares;
  finished = g.T.Space.Space.finished;
  pin = g.T.Space.Held.pin;
})
    c.args.pause c.args.at.origin.i (Layer c.args.at.context c.args.at.run) c.args.steps.now
    c.go.new.steps c.go.new.ports c.args.book.now c.lose_context.new.book _
    (lost_so c.args.at.context.plan c.args.at.origin.i _ c.args.book.now c.lose_context.new.book _
    (c.in_ok-answer-in-Memory.ensures.closes c.args.at.context.plan)
    c.in_ok-answer-in-Memory.ensures.end)
