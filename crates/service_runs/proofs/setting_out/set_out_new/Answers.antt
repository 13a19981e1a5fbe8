use Rattle.std.proofs.Common.{refl, ap}
use Rattle.service_runs.proofs.Onward.{drawn_is, hosts_begun, out_same}
use Rattle.service_runs.proofs.Losing.{lost_so}
use Rattle.space_api.specs.Holding.{Holding}
use Rattle.service_runs.proofs.setting_out.set_out_new.Goals as goal

pub begin_at-requires-clause-loose : goal.begin_at-requires-clause-loose
begin_at-requires-clause-loose g c κs within = c.requires.to_begin.fresh.loose

pub begin_at-requires-clause-begun : goal.begin_at-requires-clause-begun
begin_at-requires-clause-begun g c κs within = c.requires.to_begin.fresh.unfinished

pub begin_at-requires-clause-stands : goal.begin_at-requires-clause-stands
begin_at-requires-clause-stands g c κs within = c.requires.to_begin.fresh.stands

pub set_out_context-requires : goal.set_out_context-requires
set_out_context-requires g c κs = (
  c.type_bounds.send-T-Space,
  (
    c.type_bounds.send-T-Frozen,
    (
      c.type_bounds.send-T-Shelf,
      (
        c.type_bounds.send-T-Spares,
        (
          (refl, tt),
          (
            c.requires.copied,
            (
              c.requires.root,
              (
                c.requires.known,
                hosts_begun c.args.plan.now _ c.args.begun.origin.i c.args.book.now
                    c.args.begun.function c.args.begun.deployed c.requires.to_begin
                    c.is_sound-2.ensures c.in-Ok.context.space
                    ((g.met.T.Store.none_are_taken c.requires.copied).1 c.in-Ok.context.space)
                    (ap (λ (h : Holding). h.pin) c.in-Ok.ensures.space.2)
                    c.in-Ok.context c.in-Ok.ensures.begun,
              ),
            ),
          ),
        ),
      ),
    ),
  ),
)

pub give_up-requires-clause-serving : goal.give_up-requires-clause-serving
give_up-requires-clause-serving g c κs within = drawn_is c.args.begun.origin
    c.args.begun.function c.args.begun.deployed c.args.book.now
    c.is_sound.ensures.held.log.reached c.requires.known c.requires.to_begin.drawn

pub returns-in-Ok-clause-out : goal.returns-in-Ok-clause-out
returns-in-Ok-clause-out g c = out_same _ c.args.begun.origin.i c.args.plan.now
    c.args.begun.function c.args.begun.deployed c.in-Ok.context c.in-Ok.context.space
    c.in-Ok.ensures.begun c.set_out_context.result _ c.args.book.now
    c.set_out_context.new.book c.set_out_context.ensures.out

pub returns-in_ok-answer-in-Err-clause-out : goal.returns-in_ok-answer-in-Err-clause-out
returns-in_ok-answer-in-Err-clause-out g c = lost_so c.args.plan.now c.args.begun.origin.i _
    c.args.book.now c.give_up.new.book _
    (c.in_ok-answer-in-Err.ensures.closes c.args.plan.now) c.in_ok-answer-in-Err.ensures.end
