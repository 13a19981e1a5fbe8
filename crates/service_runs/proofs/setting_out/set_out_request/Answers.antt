use Rattle.std.proofs.Common.{◌≡◌, List, IsSome, Some, refl, sym, subst}
use Rattle.book_log.specs.declared.started.Started.{Started}
use Rattle.service_model.specs.Going.{given_in}
use Rattle.service_ends.proofs.Due.{held_by}
use Rattle.service_ends.proofs.Given.{own_there}
use Rattle.service_runs.proofs.Onward.{hosts_running, may_serve, some_given}
use Rattle.service_runs.proofs.Losing.{lost_so}
use Rattle.service_runs.proofs.setting_out.set_out_request.Goals as goal

pub begin_own-requires-clause-may : goal.begin_own-requires-clause-may
begin_own-requires-clause-may g c = may_serve c.args.context
    c.requires.hosts.in_service c.requires.top

pub begin_own-requires-clause-there : goal.begin_own-requires-clause-there
begin_own-requires-clause-there g c = subst (λ (xs : List Started).
    IsSome (given_in xs c.args.origin.i)) (sym c.started.ensures)
    (some_given _ c.args.origin.i
    (own_there c.args.book.now.started c.args.book.now.state c.args.origin.i
    c.is_sound.ensures.held.log.keys c.requires.hosts.serving.work.open_one))

pub lose_context-requires : goal.lose_context-requires
lose_context-requires g c κs = (
  c.type_bounds.send-T-Space,
  (
    c.type_bounds.send-T-Frozen,
    (
      c.type_bounds.send-T-Shelf,
      (
        c.type_bounds.send-T-Spares,
        (
          (refl, tt),
          (
            c.requires.copied,
            (
              c.requires.root,
              (
                held_by c.args.context.plan _ c.args.origin c.args.context c.args.book.now
                    c.is_sound.ensures.held.log.reached c.requires.known c.requires.hosts,
                c.requires.hosts.loose,
              ),
            ),
          ),
        ),
      ),
    ),
  ),
)

pub returns-in-Ok-clause-out : goal.returns-in-Ok-clause-out
returns-in-Ok-clause-out g c = record {
  same = refl;
  number_is = refl;
  under_way = record {
    known = c.requires.known;
    at_it = record {
      hosts = hosts_running c.args.context.plan _ c.args.origin.i c.args.book.now c.args.context
          c.requires.hosts;
      under_way = c.in-Ok.ensures.under_way;
      own = subst (λ (xs : List Started). given_in xs c.args.origin.i ≡ Some c.in-Ok.run'.given)
          c.started.ensures c.in-Ok.ensures.own;
    };
  };
  counted_is = c.in-Ok.ensures.none;
  level_is = refl;
}

pub returns-in_ok-answer-in-Err-clause-out :
    goal.returns-in_ok-answer-in-Err-clause-out
returns-in_ok-answer-in-Err-clause-out g c = lost_so c.args.context.plan c.args.origin.i _
    c.args.book.now c.lose_context.new.book _
    (c.in_ok-answer-in-Err.ensures.closes c.args.context.plan)
    c.in_ok-answer-in-Err.ensures.end
