use Rattle.std.proofs.Common.{rules, sym, subst, ◌∙◌}
use Rattle.frame_steps_tests.specs.Mids.{IsShared}
use Rattle.frame_views.proofs.Giving.{referred_reached}
use Rattle.frame_steps_tests.proofs.Visits.{mid_reached}
use Rattle.frame_steps_tests.proofs.tests.threads.is_counted.Goals as goal

pub peek_meta-requires-clause-reached : goal.peek_meta-requires-clause-reached
peek_meta-requires-clause-reached c = referred_reached c.args.h.now.seat.me.0.view 0 c.requires.shared.refers

pub peek_meta-requires-in-loop-i-clause-reached : goal.peek_meta-requires-in-loop-i-clause-reached
peek_meta-requires-in-loop-i-clause-reached c =
    let e = c.loop-i.invariant.0 ∙ c.peek_meta.ensures.view in
    mid_reached c.loop-i.h.seat.me.0.view (subst IsShared (sym e) c.requires.shared) c.loop-i.h.sound c.loop-i.i (search rules)
