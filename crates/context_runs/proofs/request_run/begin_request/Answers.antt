use Rattle.context_runs.proofs.Requesting.{request_begins}
use Rattle.context_runs.proofs.request_run.begin_request.Goals as goal

-- src/request_run.rt:47:1
pub returns-clause-under_way : goal.returns-clause-under_way
returns-clause-under_way g c =
    request_begins c.args.context.now (g.S.Space.flat c.args.context.now.space) c.begin.new.self
    c.args.given c.from_ref.result.now c.requires.may c.is_the_model.ensures.model
    c.requires.still c.from_ref.ensures.value c.in_ok-begin.ensures.ok
