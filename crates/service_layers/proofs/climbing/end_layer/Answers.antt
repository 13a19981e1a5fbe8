use Rattle.std.proofs.Common.{IfSome, refl, sym, ◌∙◌, ap, subst}
use Rattle.book_model.specs.Steps.{built_events, is_kept, last_kept}
use Rattle.context_runs.specs.OfLayers.{StandsAbove, stop_of_why}
use Rattle.deployer.specs.Layering.{IsAbove}
use Rattle.layer_model.specs.Layers.{IsNoLayer}
use Rattle.plan_model.specs.Outline.{IsPlan}
use Rattle.request_service.specs.Turns.{EndsByRun}
use Rattle.request_service.specs.UnderWay.{HostsInRun}
use Rattle.service_layers.proofs.Kept.{of_plan, taking}
use Rattle.service_layers.proofs.Reaching.{climbs_reached, held_same, may_keep_taken, no_spare}
use Rattle.service_model.specs.Going.{WentBy}
use Rattle.space_api.specs.Holding.{Holding}
use Rattle.space_api.specs.Stores.{frozen_of}
use Rattle.service_layers.proofs.climbing.end_layer.Goals as goal

pub keep_layer-requires : goal.keep_layer-requires
keep_layer-requires g c κs = (
  c.type_bounds.send-T-Space,
  (
    c.type_bounds.send-T-Frozen,
    (
      c.type_bounds.send-T-Shelf,
      (
        c.type_bounds.send-T-Spares,
        (
          (refl, tt),
          (
            c.requires.copied,
            (
              c.requires.may.sizes.root,
              (
                c.requires.may.grounds.any_layer c.in-Reached.layer
                    (of_plan c.args.at.context.plan _
                    c.args.at.run.number c.args.at.context c.in-Reached.context c.in-Reached.layer
                    c.in-Reached.ensures.1.0 refl c.requires.may.stopped.is_above.above.layer
                    c.requires.may.stopped.is_above.above.layer_is c.is_the_model.ensures),
                subst (λ n. IsAbove (λ z. frozen_of (g.T.Frozen.FrozenMemory.flat z)
                    (g.T.Frozen.FrozenMemory.image z)) g.T.Frozen.Held.pin n c.in-Reached.layer
                    c.args.book.now) (sym c.id-c.ensures)
                    (may_keep_taken _ c.args.at.origin c.args.at.context c.args.at.run.number
                    c.args.book.now
                    c.requires.may.hosts c.requires.may.stopped.is_above.above _ _ _ _ _ _ _
                    c.in-Reached.context
                    c.in-Reached.layer c.requires.may.sizes c.in-Reached.ensures.1.0
                    c.in-Reached.ensures.1.2
                    refl),
              ),
            ),
          ),
        ),
      ),
    ),
  ),
)

pub miss_layer-requires : goal.miss_layer-requires
miss_layer-requires g c κs = (
  c.type_bounds.send-T-Space,
  (
    c.type_bounds.send-T-Frozen,
    (
      c.type_bounds.send-T-Shelf,
      (
        c.type_bounds.send-T-Spares,
        (
          (refl, tt),
          (
            c.requires.copied,
            (
              c.requires.may.sizes.root,
              (
                c.requires.may.known,
                (
                  subst (λ v. HostsInRun v.plan (record {
                    flat = g.T.Space.Space.flat;
                    spares = g.T.Space.Space.spares;
                    finished = g.T.Space.Space.finished;
                    pin = g.T.Space.Held.pin;
                  }) c.args.at.origin.i v c.args.book.now)
                      (sym c.in-Missed.ensures.1) c.requires.may.hosts,
                  (
                    subst (λ v. StandsAbove v.plan v.function v.layer c.args.at.run.number)
                        (sym c.in-Missed.ensures.1) c.requires.may.stopped.is_above.above,
                    subst (λ v. IsNoLayer v.plan c.args.at.run.number (stop_of_why c.in-Missed.why))
                        (sym c.in-Missed.ensures.1) c.in-Missed.ensures.2,
                  ),
                ),
              ),
            ),
          ),
        ),
      ),
    ),
  ),
)

pub lose_context-requires : goal.lose_context-requires
lose_context-requires g c κs = (
  c.type_bounds.send-T-Space,
  (
    c.type_bounds.send-T-Frozen,
    (
      c.type_bounds.send-T-Shelf,
      (
        c.type_bounds.send-T-Spares,
        (
          (refl, tt),
          (
            c.requires.copied,
            (
              c.requires.may.sizes.root,
              (
                held_same _ c.args.at.origin c.args.at.context c.args.at.run.number c.args.book.now
                    c.requires.may.hosts c.requires.may.stopped.is_above.above c.in-Memory.context
                    c.in-Memory.ensures.1.1.context_is c.requires.may.known,
                ap (λ (h : Holding). h.pin) c.in-Memory.ensures.1.1.space_is.holding
                    ∙ c.requires.may.hosts.loose,
              ),
            ),
          ),
        ),
      ),
    ),
  ),
)

pub returns-in_ok-keep_layer-in-Reached-clause-climbs :
    goal.returns-in_ok-keep_layer-in-Reached-clause-climbs
returns-in_ok-keep_layer-in-Reached-clause-climbs g c = climbs_reached _ c.args.at.origin
    c.args.at.context c.args.at.run.number c.args.book.now c.requires.may.hosts
    c.requires.may.stopped.is_above.above c.in-Reached.context c.in-Reached.layer c.in-Reached.pages
    c.args.at.run.done c.keep_layer.new.book c.is_sound.ensures.held.log.reached
    (subst IsPlan c.plan.ensures c.is_sound-2.ensures) c.requires.may.known
    c.requires.may.stopped.is_above.unused c.requires.may.on_way c.in-Reached.ensures.1.0
    (no_spare _ _ _ c.requires.copied c.in-Reached.ensures.1.1)
    c.in-Reached.ensures.1.2.pin_stays (taking c.args.at.context _ c.args.at.run c.args.stop
    c.in-Reached.pages c.requires.may.stopped c.in-Reached.ensures.0 c.in-Reached.ensures.1.3)
    (subst (λ n. IfSome c.in-Reached.layer.number (λ j. WentBy (built_events n j
    c.in-Reached.pages (is_kept j c.args.book.now) (last_kept c.args.book.now)) c.args.book.now
    c.keep_layer.new.book)) c.id-c.ensures c.in_ok-keep_layer-in-Reached.ensures.went)

pub returns-in_ok-answer-in-Memory-clause-climbs :
    goal.returns-in_ok-answer-in-Memory-clause-climbs
returns-in_ok-answer-in-Memory-clause-climbs g c = record {
  events = _;
  closes = c.in_ok-answer-in-Memory.ensures.closes c.args.at.context.plan;
  no_run = λ r. subst EndsByRun c.in_ok-answer-in-Memory.ensures.end r;
}
