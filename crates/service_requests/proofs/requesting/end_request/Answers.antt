use Rattle.std.proofs.Common.{◌≡◌, true, None, refl, sym, subst}
use Rattle.context_uc.specs.Views.{ContextView}
use Rattle.deployer.specs.Grounds.{AreGrounds, IsSizedBy}
use Rattle.plan_model.specs.Outline.{Outline}
use Rattle.request_service.specs.Ending.{IsHeldBy}
use Rattle.service_ends.proofs.Due.{held_by}
use Rattle.service_requests.proofs.Answering.{answered, lost_is, may_close, ok_both, plan_after}
use Rattle.service_requests.proofs.Counted.{steps_are}
use Rattle.service_requests.proofs.requesting.end_request.Goals as goal

pub close_request-requires : goal.close_request-requires
close_request-requires g c κs = (
  c.type_bounds.send-T-Space,
  (
    c.type_bounds.send-T-Frozen,
    (
      c.type_bounds.send-T-Shelf,
      (
        c.type_bounds.send-T-Spares,
        (
          (refl, tt),
          (
            c.requires.copied,
            (
              subst (λ (p : Outline). IsSizedBy p c.args.book.now.sizes)
                  (sym (plan_after c.args.stop c.args.at.run.given c.args.at.context
                  c.after_request.new.context c.in-Ok.ensures.served)) c.requires.may.sizes,
              (
                subst (λ (p : Outline). AreGrounds p g.T.Frozen.FrozenMemory.flat
                    g.G.Grounds.is_context g.G.Grounds.is_layer)
                    (sym (plan_after c.args.stop c.args.at.run.given c.args.at.context
                    c.after_request.new.context c.in-Ok.ensures.served)) c.requires.may.grounds,
                may_close (record {
                  flat = g.T.Space.Space.flat;
                  spares = g.T.Space.Space.spares;
                  finished = g.T.Space.Space.finished;
                  pin = g.T.Space.Held.pin;
                }) c.args.at.origin c.args.at.context c.args.book.now
                    c.is_sound.ensures.held.log.reached c.requires.may.known c.requires.may.hosts
                    c.args.at.run.given c.requires.may.own c.in-Ok.reply c.args.stop
                    c.in-Ok.ensures.reply c.after_request.new.context c.in-Ok.ensures.served
                    c.answer_with-answer.result c.answer_with-answer.ensures
                    c.requires.may.ended.may.top c.is_the_model.ensures.few.stripped_few,
              ),
            ),
          ),
        ),
      ),
    ),
  ),
)

pub lose_context-requires : goal.lose_context-requires
lose_context-requires g c κs = (
  c.type_bounds.send-T-Space,
  (
    c.type_bounds.send-T-Frozen,
    (
      c.type_bounds.send-T-Shelf,
      (
        c.type_bounds.send-T-Spares,
        (
          (refl, tt),
          (
            c.requires.copied,
            (
              c.requires.may.sizes.root,
              (
                subst (λ (x : ContextView _). IsHeldBy c.args.at.origin x.id c.args.book.now)
                    (sym c.in-Err.ensures.same) (held_by c.args.at.context.plan (record {
                      flat = g.T.Space.Space.flat;
                      spares = g.T.Space.Space.spares;
                      finished = g.T.Space.Space.finished;
                      pin = g.T.Space.Held.pin;
                    }) c.args.at.origin (record c.args.at.context { still = true })
                    c.args.book.now c.is_sound.ensures.held.log.reached c.requires.may.known
                    c.requires.may.hosts),
                subst (λ (x : ContextView _). g.T.Space.Held.pin x.space ≡ None)
                    (sym c.in-Err.ensures.same) c.requires.may.hosts.loose,
              ),
            ),
          ),
        ),
      ),
    ),
  ),
)

pub returns-in-Ok-clause-answered : goal.returns-in-Ok-clause-answered
returns-in-Ok-clause-answered g c = ok_both c.close_request.result _ _ _
    (answered (record {
      flat = g.T.Space.Space.flat;
      spares = g.T.Space.Space.spares;
      finished = g.T.Space.Space.finished;
      pin = g.T.Space.Held.pin;
    }) c.args.at.origin c.args.at.context c.args.book.now
    c.is_sound.ensures.held.log.reached c.requires.may.known c.requires.may.hosts
    c.args.at.run.given
    c.requires.may.own c.in-Ok.reply c.args.stop c.in-Ok.ensures.reply c.after_request.new.context
    c.in-Ok.ensures.served c.answer_with-answer.result c.answer_with-answer.ensures
    c.args.at.run.done (steps_are c.args.at.context _ c.args.ports.now c.args.at.run c.args.stop
    c.requires.may.ended c.in-Ok.reply c.in-Ok.ensures.reply) c.close_request.new.book)
    c.close_request.ensures.same c.close_request.ensures.closes

pub returns-in-Err-clause-answered : goal.returns-in-Err-clause-answered
returns-in-Err-clause-answered g c = ok_both c.lose_context.result _ _ _
    (λ a closes is. lost_is c.args.at.context.plan c.args.at.origin.i c.args.at.run.done a
    c.args.book.now c.lose_context.new.book _ (closes c.args.at.context.plan) is)
    c.lose_context.ensures.closes c.lose_context.ensures.end
