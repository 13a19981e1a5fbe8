use Rattle.std.proofs.Common.{refl, subst}
use Rattle.context_uc.specs.Views.{ContextView}
use Rattle.request_service.specs.UnderWay.{IsAt}
use Rattle.request_service.specs.declared.service.Work.{Work}
use Rattle.service_runs.proofs.Onward.{hosts_of_plan}
use Rattle.service_runs.proofs.setting_out.set_out.Goals as goal

pub set_out_new-requires : goal.set_out_new-requires
set_out_new-requires g c κs = (
  c.type_bounds.send-T-Space,
  (
    c.type_bounds.send-T-Frozen,
    (
      c.type_bounds.send-T-Shelf,
      (
        c.type_bounds.send-T-Spares,
        (
          (refl, tt),
          (
            c.requires.copied,
            (
              c.requires.root,
              (
                c.requires.known,
                subst (λ (w : Work (ContextView _) _). IsAt c.args.plan.now (record {
                  flat = g.T.Space.Space.flat;
                  spares = g.T.Space.Space.spares;
                  finished = g.T.Space.Space.finished;
                  pin = g.T.Space.Held.pin;
                }) c.args.ports.now c.args.service.origin.i w c.args.book.now)
                    c.in-Deployed.is c.requires.at_it,
              ),
            ),
          ),
        ),
      ),
    ),
  ),
)

pub set_out_context-requires : goal.set_out_context-requires
set_out_context-requires g c κs = (
  c.type_bounds.send-T-Space,
  (
    c.type_bounds.send-T-Frozen,
    (
      c.type_bounds.send-T-Shelf,
      (
        c.type_bounds.send-T-Spares,
        (
          (refl, tt),
          (
            c.requires.copied,
            (
              c.requires.root,
              (
                c.requires.known,
                hosts_of_plan c.args.plan.now (record {
                  flat = g.T.Space.Space.flat;
                  spares = g.T.Space.Space.spares;
                  finished = g.T.Space.Space.finished;
                  pin = g.T.Space.Held.pin;
                }) c.args.service.origin.i c.in-Between.context c.args.book.now
                    (subst (λ (w : Work (ContextView _) _). IsAt c.args.plan.now (record {
                      flat = g.T.Space.Space.flat;
                      spares = g.T.Space.Space.spares;
                      finished = g.T.Space.Space.finished;
                      pin = g.T.Space.Held.pin;
                    }) c.args.ports.now c.args.service.origin.i w c.args.book.now)
                    c.in-Between.is c.requires.at_it),
              ),
            ),
          ),
        ),
      ),
    ),
  ),
)
