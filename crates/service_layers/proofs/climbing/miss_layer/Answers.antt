use Rattle.std.proofs.Common.{subst, sym, true}
use Rattle.context_runs.specs.OfLayers.{stop_of_why}
use Rattle.request_service.specs.Ending.{IsServedBy}
use Rattle.service_ends.proofs.Due.{served_by}
use Rattle.service_layers.proofs.Missing.{missed}
use Rattle.service_layers.proofs.climbing.miss_layer.Goals as goal

pub finish_request-requires-clause-by : goal.finish_request-requires-clause-by
finish_request-requires-clause-by g c κs within = subst (λ a. IsServedBy a c.args.book.now)
    (sym c.answer_with-answer.ensures) (served_by c.args.at.context.plan _ c.args.at.origin
    (record c.args.at.context { still = true }) c.args.book.now
    c.is_sound.ensures.held.log.reached c.requires.known c.requires.hosts
    c.missed_reply-reply.result)

pub returns-clause-lost : goal.returns-clause-lost
returns-clause-lost g c = missed _ c.args.at.origin c.args.at.context c.args.book.now
    c.finish_request.new.book c.missed_reply-reply.result c.answer_with-answer.result
    c.args.at.run.number (stop_of_why c.args.why) c.is_sound.ensures.held.log.reached
    c.is_sound.ensures.held.log.keys c.requires.known c.requires.hosts
    c.missed_reply-reply.ensures c.answer_with-answer.ensures
    c.in_ok-finish_request.ensures.closes
