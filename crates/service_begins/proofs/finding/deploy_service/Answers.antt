use Rattle.service_begins.proofs.Drawn.{deployed_found}
use Rattle.service_begins.proofs.Unchanged.{finds_no_memory, root_stays, waits_still}
use Rattle.service_begins.proofs.finding.deploy_service.Goals as goal

pub give_up_waiting-requires-clause-root : goal.give_up_waiting-requires-clause-root
give_up_waiting-requires-clause-root g c κs within = root_stays c.args.book.now
    c.deploy_host.new.book c.in-Err.ensures.waits c.requires.sizes.root

pub give_up_waiting-requires-clause-waits : goal.give_up_waiting-requires-clause-waits
give_up_waiting-requires-clause-waits g c κs within = waits_still c.args.book.now
    c.deploy_host.new.book c.in-Err.ensures.waits c.args.request c.requires.waits

pub returns-in-Ok-clause-finds : goal.returns-in-Ok-clause-finds
returns-in-Ok-clause-finds g c = deployed_found c.args.plan.now _ c.args.request.i
    c.args.request.function _ c.in-Ok.deployed c.args.book.now c.deploy_host.new.book
    c.is_sound-2.ensures.held.log.reached c.in-Ok.ensures.went c.requires.sizes
    c.requires.waits.for_function c.in-Ok.ensures.fresh c.in-Ok.ensures.drawn c.is_sound.ensures
    c.requires.there c.fresh.result c.fresh.ensures

pub returns-in_ok-give_up_waiting-in-Err-clause-finds :
    goal.returns-in_ok-give_up_waiting-in-Err-clause-finds
returns-in_ok-give_up_waiting-in-Err-clause-finds g c = finds_no_memory c.args.plan.now _
    c.args.request.i _ c.args.book.now c.deploy_host.new.book c.give_up_waiting.new.book
    c.in-Err.ensures.waits c.in_ok-give_up_waiting-in-Err.ensures.closes
    c.in_ok-give_up_waiting-in-Err.ensures.end
