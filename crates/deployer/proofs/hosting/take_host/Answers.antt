use Rattle.deployer.specs.Hosting.{Telling}
use Rattle.deployer.proofs.Hosted.{took}
use Rattle.deployer.proofs.hosting.take_host.Goals as goal

pub returns-clause-taken : goal.returns-clause-taken
returns-clause-taken g c =
    let telling : Telling _ = record {
      flat = g.T.Space.Space.flat;
      spares = g.T.Space.Space.spares;
      finished = g.T.Space.Space.finished;
      pin = g.T.Space.Held.pin;
    } in
    took c.args.plan.now telling c.args.i c.args.function c.args.book.now c.take_idle.new.self
    c.is_sound.ensures.held.log.reached g.G.Grounds.is_context c.requires.grounds.context
    c.requires.function c.take_idle.result c.take_idle.ensures.taken c.take_idle.ensures.told
