use Rattle.std.proofs.Common.{◌+◌, ◌<◌, length, sym, ap, subst, ◌∙◌, arith, List, ℕ}
use Rattle.frame_model.specs.declared.view.View.{View}
use Rattle.frame_model.specs.Views.{Has, reach}
use Rattle.frame_steps.specs.Counted.{gained}
use Rattle.frame_views.proofs.Giving.{own_reached}
use Rattle.frame_steps_tests.specs.Filled.{IsFilled}
use Rattle.frame_steps_tests.proofs.Filling as filling
use Rattle.frame_steps_tests.proofs.tests.counts.give_up.Goals as goal

pub gain-requires-clause-reached : goal.gain-requires-clause-reached
gain-requires-clause-reached c =
    let v = c.args.h.now.seat.me.0.view in
    own_reached v 0 (filling.laid_loose 129 v c.requires.laid 0 (omega arith)).owned

pub gain-requires-clause-few : goal.gain-requires-clause-few
gain-requires-clause-few c =
    let e = ap (λ (xs : List ℕ). length xs) c.requires.laid.references in omega arith

pub gain-requires-2-clause-reached : goal.gain-requires-2-clause-reached
gain-requires-2-clause-reached c =
    let v = c.args.h.now.seat.me.0.view in
    let e = c.gain.ensures.view ∙ filling.first_gained v c.requires.laid in
    subst (λ (u : View). Has 0 (reach u)) (sym e) (filling.once_reached v c.requires.laid)

pub gain-requires-2-clause-few : goal.gain-requires-2-clause-few
gain-requires-2-clause-few c =
    let v = c.args.h.now.seat.me.0.view in
    let e = c.gain.ensures.view ∙ filling.first_gained v c.requires.laid in
    let l = ap (λ (xs : List ℕ). length xs) c.requires.laid.references in
    subst (λ (u : View). length u.references < 16) (sym e) (omega arith)

pub returns-clause-filled : goal.returns-clause-filled
returns-clause-filled c =
    let v = c.args.h.now.seat.me.0.view in
    let e = c.gain.ensures.view ∙ filling.first_gained v c.requires.laid in
    let g = c.gain-2.ensures.view ∙ ap (λ (u : View). gained u 0) e
    ∙ filling.second_gained v c.requires.laid in
    subst (IsFilled 512) (sym g) (filling.given_up v c.requires.laid)
