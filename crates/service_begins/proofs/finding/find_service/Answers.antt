use Rattle.std.proofs.Common.{refl, rules}
use Rattle.deployer.proofs.Going.{went_same}
use Rattle.service_begins.proofs.Reused.{found_taken}
use Rattle.service_begins.proofs.Unchanged.{finds_no_memory, finds_still, none_still, root_stays}
use Rattle.service_begins.proofs.Unchanged.{sized_still, still_there, waits_still}
use Rattle.service_begins.proofs.finding.find_service.Goals as goal

-- ---- where a context was taken

pub returns-in-Ok-Some-clause-finds : goal.returns-in-Ok-Some-clause-finds
returns-in-Ok-Some-clause-finds g c = found_taken c.args.plan.now _ c.args.request.i
    c.args.request.function c.in-Ok-Some.field-0 c.in-Ok-Some.context c.args.book.now
    c.take_host.new.book c.is_sound.ensures.held.log.reached c.in-Ok-Some.field-0-is
    c.in-Ok-Some.ensures.taken c.hot.result c.hot.ensures

-- ---- where none was idle

pub deploy_service-requires : goal.deploy_service-requires
deploy_service-requires g c κs = (
  search rules,
  (
    search rules,
    (
      search rules,
      (
        search rules,
        (
          (refl, tt),
          (
            c.requires.copied,
            (
              sized_still c.args.plan.now _ c.args.request.i c.args.request.function
                  c.in-Ok-None.field-0 c.args.book.now c.take_host.new.book c.in-Ok-None.field-0-is
                  c.in-Ok-None.ensures.taken c.requires.sizes,
              (
                c.requires.grounds,
                (
                  c.requires.there,
                  (
                    waits_still c.args.book.now c.take_host.new.book (still_there c.args.plan.now _
                        c.args.request.i c.args.request.function
                        c.in-Ok-None.field-0 c.args.book.now
                        c.take_host.new.book c.in-Ok-None.field-0-is
                        c.in-Ok-None.ensures.taken) c.args.request
                        c.requires.waits,
                    none_still c.args.plan.now _ c.args.request.i c.args.request.function
                        c.in-Ok-None.field-0 c.args.book.now
                        c.take_host.new.book c.in-Ok-None.field-0-is
                        c.in-Ok-None.ensures.taken,
                  ),
                ),
              ),
            ),
          ),
        ),
      ),
    ),
  ),
)

pub returns-in-Ok-None-clause-finds : goal.returns-in-Ok-None-clause-finds
returns-in-Ok-None-clause-finds g c = finds_still c.args.plan.now _ c.args.request.i
    c.args.request.function c.in-Ok-None.field-0 c.args.book.now c.take_host.new.book
    c.in-Ok-None.field-0-is c.in-Ok-None.ensures.taken c.deploy_service.new.book
    c.deploy_service.result c.deploy_service.ensures.finds

-- ---- where there was no memory

pub give_up_waiting-requires-clause-root : goal.give_up_waiting-requires-clause-root
give_up_waiting-requires-clause-root g c κs within = root_stays c.args.book.now
    c.take_host.new.book
    (went_same c.args.book.now c.take_host.new.book c.in-Err.ensures.waits) c.requires.sizes.root

pub give_up_waiting-requires-clause-waits : goal.give_up_waiting-requires-clause-waits
give_up_waiting-requires-clause-waits g c κs within = waits_still c.args.book.now
    c.take_host.new.book
    (went_same c.args.book.now c.take_host.new.book c.in-Err.ensures.waits) c.args.request
    c.requires.waits

pub returns-in_ok-give_up_waiting-in-Err-clause-finds :
    goal.returns-in_ok-give_up_waiting-in-Err-clause-finds
returns-in_ok-give_up_waiting-in-Err-clause-finds g c = finds_no_memory c.args.plan.now _
    c.args.request.i _ c.args.book.now c.take_host.new.book c.give_up_waiting.new.book
    (went_same c.args.book.now c.take_host.new.book c.in-Err.ensures.waits)
    c.in_ok-give_up_waiting-in-Err.ensures.closes c.in_ok-give_up_waiting-in-Err.ensures.end
