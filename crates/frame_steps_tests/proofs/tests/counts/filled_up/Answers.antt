use Rattle.std.proofs.Common.{sym, subst, arith}
use Rattle.frame_model.specs.declared.view.View.{View}
use Rattle.frame_steps_tests.specs.Filled.{IsFilled}
use Rattle.frame_steps_tests.proofs.Filling as filling
use Rattle.frame_steps_tests.proofs.tests.counts.filled_up.Goals as goal

pub peek_meta-requires-clause-reached : goal.peek_meta-requires-clause-reached
peek_meta-requires-clause-reached c =
    filling.filled_reached c.loop-n.n c.loop-n.h.seat.me.0.view c.loop-n.invariant.0

pub returns-clause-filled : goal.returns-clause-filled
returns-clause-filled c =
    let a = c.loop-n.auto in
    subst (λ n. IsFilled n c.peek_meta.new.h.seat.me.0.view) (omega (arith, a.n, a.n-end))
    (subst (IsFilled c.loop-n.n) (sym c.peek_meta.ensures.view) c.loop-n.invariant.0)
