use Rattle.std.proofs.Common.{refl, ap}
use Rattle.context_runs.specs.declared.layer_run.LayerRun.{LayerRun}
use Rattle.service_ends.proofs.Due.{held_by}
use Rattle.service_runs.proofs.Onward.{hosts_running, way_to}
use Rattle.service_runs.proofs.Losing.{lost_so}
use Rattle.service_runs.proofs.setting_out.set_out_layer.Goals as goal

pub lose_context-requires : goal.lose_context-requires
lose_context-requires g c κs = (
  c.type_bounds.send-T-Space,
  (
    c.type_bounds.send-T-Frozen,
    (
      c.type_bounds.send-T-Shelf,
      (
        c.type_bounds.send-T-Spares,
        (
          (refl, tt),
          (
            c.requires.copied,
            (
              c.requires.root,
              (
                held_by c.args.at.context.plan _ c.args.at.origin c.args.at.context
                    c.args.book.now c.is_sound.ensures.held.log.reached c.requires.known
                    c.requires.hosts,
                c.requires.hosts.loose,
              ),
            ),
          ),
        ),
      ),
    ),
  ),
)

pub returns-in-Ok-clause-out : goal.returns-in-Ok-clause-out
returns-in-Ok-clause-out g c = record {
  same = refl;
  number_is = refl;
  under_way = record {
    known = c.requires.known;
    at_it = record {
      hosts = hosts_running c.args.at.context.plan _ c.args.at.origin.i c.args.book.now
          c.args.at.context c.requires.hosts;
      on_way = way_to c.args.at.context c.in-Ok.run' c.args.at.run c.in-Ok.ensures.begun
          c.requires.on_way;
      under_way = c.in-Ok.ensures.under_way;
    };
  };
  counted_is = ap (λ (r : LayerRun). r.done) c.in-Ok.ensures.begun;
  level_is = refl;
}

pub returns-in_ok-answer-in-Err-clause-out :
    goal.returns-in_ok-answer-in-Err-clause-out
returns-in_ok-answer-in-Err-clause-out g c = lost_so c.args.at.context.plan
    c.args.at.origin.i _ c.args.book.now c.lose_context.new.book _
    (c.in_ok-answer-in-Err.ensures.closes c.args.at.context.plan)
    c.in_ok-answer-in-Err.ensures.end
