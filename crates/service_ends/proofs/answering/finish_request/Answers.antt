use Rattle.deployer.proofs.Going.{ok_then}
use Rattle.service_ends.proofs.Closes.{closes_over, may_be_over}
use Rattle.service_ends.proofs.answering.finish_request.Goals as goal

pub finish-requires-clause-may : goal.finish-requires-clause-may
finish-requires-clause-may g c κs within =
    may_be_over c.args.answer.now c.args.book.now c.requires.by

pub returns-clause-closes : goal.returns-clause-closes
returns-clause-closes g c = ok_then c.finish.result _ _ (λ w plan due over.
    closes_over plan c.args.answer.now c.args.book.now c.finish.new.book
    c.is_sound.ensures.held.log.reached due over w) c.finish.ensures.went
