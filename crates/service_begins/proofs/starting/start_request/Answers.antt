use Rattle.service_begins.proofs.Waiting.{one_starts}
use Rattle.service_begins.proofs.starting.start_request.Goals as goal

pub returns-in-Ok-clause-starts : goal.returns-in-Ok-clause-starts
returns-in-Ok-clause-starts g c = one_starts c.args.one.now c.in-Ok.i c.args.book.now
    c.start.new.self c.requires.may c.in-Ok.ensures.number c.in-Ok.ensures.started
