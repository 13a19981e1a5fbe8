use denote.Param.Send.{given_send, param_send}
use Rattle.std.proofs.Common.{refl}
use Rattle.service_turns.proofs.Out.{runs_layer, runs_request, turns_layer, turns_lost}
use Rattle.service_turns.proofs.Out.{turns_request}
use Rattle.service_turns.proofs.turning.go_on.Goals as goal

pub set_out-requires : goal.set_out-requires
set_out-requires g c κs = (
  param_send 2 _ (given_send 3 _ g.row.T-Space c.type_bounds.send-T-Space),
  (
    param_send 3 _ (given_send 4 _ g.row.T-Frozen c.type_bounds.send-T-Frozen),
    (
      param_send 4 _ (given_send 5 _ g.row.T-Shelf c.type_bounds.send-T-Shelf),
      (
        param_send 5 _ (given_send 6 _ g.row.T-Spares c.type_bounds.send-T-Spares),
        (
          (refl, tt),
          (
            c.requires.copied,
            (c.requires.sizes.root, (c.requires.under_way.known, c.requires.under_way.at_it)),
          ),
        ),
      ),
    ),
  ),
)

pub turn_in_layer-requires : goal.turn_in_layer-requires
turn_in_layer-requires g c κs = (
  c.type_bounds.send-T-Space,
  (
    c.type_bounds.send-T-Frozen,
    (
      c.type_bounds.send-T-Shelf,
      (
        c.type_bounds.send-T-Spares,
        (
          (refl, tt),
          (
            c.requires.copied,
            runs_layer c.args.plan.now (record {
              flat = g.T.Space.Space.flat;
              spares = g.T.Space.Space.spares;
              finished = g.T.Space.Space.finished;
              pin = g.T.Space.Held.pin;
            }) g.T.Frozen.FrozenMemory.flat
                g.G.Grounds.is_context g.G.Grounds.is_layer c.args.service.origin.i _ _
                c.in_ok-out.out c.set_out.new.ports c.args.book.now c.set_out.new.book
                c.in_ok-out.ensures.out c.requires.sizes c.requires.grounds c.in-InLayer.at
                c.in-InLayer.is,
          ),
        ),
      ),
    ),
  ),
)

pub turn_in_request-requires : goal.turn_in_request-requires
turn_in_request-requires g c κs = (
  c.type_bounds.send-T-Space,
  (
    c.type_bounds.send-T-Frozen,
    (
      c.type_bounds.send-T-Shelf,
      (
        c.type_bounds.send-T-Spares,
        (
          (refl, tt),
          (
            c.requires.copied,
            runs_request c.args.plan.now (record {
              flat = g.T.Space.Space.flat;
              spares = g.T.Space.Space.spares;
              finished = g.T.Space.Space.finished;
              pin = g.T.Space.Held.pin;
            }) g.T.Frozen.FrozenMemory.flat
                g.G.Grounds.is_context g.G.Grounds.is_layer c.args.service.origin.i _ _
                c.in_ok-out.out c.set_out.new.ports c.args.book.now c.set_out.new.book
                c.in_ok-out.ensures.out c.requires.sizes c.requires.grounds c.in-InRequest.at
                c.in-InRequest.is,
          ),
        ),
      ),
    ),
  ),
)

pub returns-in-InLayer-clause-turns : goal.returns-in-InLayer-clause-turns
returns-in-InLayer-clause-turns g c = turns_layer c.args.plan.now (record {
  flat = g.T.Space.Space.flat;
  spares = g.T.Space.Space.spares;
  finished = g.T.Space.Space.finished;
  pin = g.T.Space.Held.pin;
})
    c.args.pause c.args.service.origin.i c.args.service.work c.args.steps.now
    c.turn_in_layer.new.steps c.set_out.new.ports c.turn_in_layer.new.ports c.args.book.now
    c.set_out.new.book c.turn_in_layer.new.book c.in_ok-out.out c.in_ok-out.ensures.out
    c.turn_in_layer.result c.in-InLayer.at c.in-InLayer.is c.turn_in_layer.ensures.turns

pub returns-in-InRequest-clause-turns : goal.returns-in-InRequest-clause-turns
returns-in-InRequest-clause-turns g c = turns_request c.args.plan.now (record {
  flat = g.T.Space.Space.flat;
  spares = g.T.Space.Space.spares;
  finished = g.T.Space.Space.finished;
  pin = g.T.Space.Held.pin;
})
    c.args.pause c.args.service.origin.i c.args.service.work c.args.steps.now
    c.turn_in_request.new.steps c.set_out.new.ports c.turn_in_request.new.ports c.args.book.now
    c.set_out.new.book c.turn_in_request.new.book c.in_ok-out.out c.in_ok-out.ensures.out
    c.turn_in_request.result c.in-InRequest.at c.in-InRequest.is c.turn_in_request.ensures.turns

pub returns-in-Lost-clause-turns : goal.returns-in-Lost-clause-turns
returns-in-Lost-clause-turns g c = turns_lost c.args.plan.now (record {
  flat = g.T.Space.Space.flat;
  spares = g.T.Space.Space.spares;
  finished = g.T.Space.Space.finished;
  pin = g.T.Space.Held.pin;
})
    c.args.pause c.args.service.origin.i c.args.service.work c.args.steps.now c.args.steps.now _ _
    c.set_out.new.ports c.set_out.new.ports c.args.book.now c.set_out.new.book c.in_ok-out.out
    c.in-Lost.answer c.in_ok-out.ensures.out c.in-Lost.is
