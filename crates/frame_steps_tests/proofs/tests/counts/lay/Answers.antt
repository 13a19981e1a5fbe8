use Rattle.std.proofs.Common.{◌+◌, ◌<◌, sym, subst, ◌∙◌, arith}
use Rattle.frame_model.specs.declared.view.View.{View}
use Rattle.frame_steps_tests.specs.Filled.{IsLaid}
use Rattle.frame_steps_tests.proofs.Filling as filling
use Rattle.frame_steps_tests.proofs.tests.counts.lay.Goals as goal

pub loop-f-init : goal.loop-f-init
loop-f-init c = (subst (IsLaid 1) (sym c.requires.whole) filling.first_laid, c.requires.of)

pub dress-requires-clause-loose : goal.dress-requires-clause-loose
dress-requires-clause-loose c =
    let a = c.loop-f.auto in
    filling.laid_loose c.loop-f.f c.loop-f.h.seat.me.0.view c.loop-f.invariant.0 c.loop-f.f
    (omega (arith, a.f, a.f-end))

pub loop-f-preserved : goal.loop-f-preserved
loop-f-preserved c =
    let a = c.loop-f.auto in
    let v = c.loop-f.h.seat.me.0.view in (
      subst (IsLaid (c.loop-f.f + 1)) (sym c.dress.ensures.view)
          (filling.dressed_laid c.loop-f.f v c.loop-f.invariant.0 (omega (arith, a.f, a.f-end))),
      c.dress.ensures.beside ∙ c.loop-f.invariant.1,
    )
