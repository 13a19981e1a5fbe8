use Rattle.context_runs.proofs.Requesting.{untriggered}
use Rattle.context_runs.proofs.replying.after_request.Goals as goal

-- src/replying.rt:112:17
pub shown-requires : goal.shown-requires
shown-requires g c =
    untriggered c.args.context.now (g.S.Space.flat c.args.context.now.space) c.args.ports.now
    c.args.run c.args.stop c.requires.ended
