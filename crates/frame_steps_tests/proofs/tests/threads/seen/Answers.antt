use Rattle.std.proofs.Common.{◌+◌, inl, refl, sym, subst, ◌∙◌}
use Rattle.frame_model.specs.declared.view.View.{View}
use Rattle.frame_model.specs.Views.{Has, reach}
use Rattle.frame_steps.specs.Counted.{lost, IsNamedTwice}
use Rattle.frame_steps_tests.proofs.Visits.{shared_gained, mid_reached, root_in_reach, mid_in_reach, mid_linked, back}
use Rattle.frame_steps_tests.proofs.tests.threads.seen.Goals as goal

pub gain-requires-clause-reached : goal.gain-requires-clause-reached
gain-requires-clause-reached c = mid_reached c.args.h.now.seat.me.0.view c.requires.shared c.args.h.now.sound c.args.i c.requires.index

pub peek_word-entry-requires-clause-reached : goal.peek_word-entry-requires-clause-reached
peek_word-entry-requires-clause-reached c =
    let v = c.args.h.now.seat.me.0.view in
    let e = c.gain.ensures.view ∙ shared_gained v c.requires.shared (c.args.i + 1) in
    subst (λ (u : View). Has 0 (reach u)) (sym e) (root_in_reach v c.requires.shared c.args.i c.requires.index)

pub peek_word-word-requires-clause-reached : goal.peek_word-word-requires-clause-reached
peek_word-word-requires-clause-reached c =
    let v = c.args.h.now.seat.me.0.view in
    let e = c.peek_word-entry.ensures.view ∙ c.gain.ensures.view ∙ shared_gained v c.requires.shared (c.args.i + 1) in
    subst (λ (u : View). Has (c.args.i + 1) (reach u)) (sym e) (mid_in_reach v c.requires.shared c.args.i c.requires.index)

pub lose-requires-clause-referred : goal.lose-requires-clause-referred
lose-requires-clause-referred c =
    let v = c.args.h.now.seat.me.0.view in
    let e = c.peek_word-word.ensures.view ∙ c.peek_word-entry.ensures.view ∙ c.gain.ensures.view ∙ shared_gained v c.requires.shared (c.args.i + 1) in
    subst (λ (u : View). Has (c.args.i + 1) u.references) (sym e) (inl refl)

pub returns-clause-view : goal.returns-clause-view
returns-clause-view c =
    let v = c.args.h.now.seat.me.0.view in
    let e = c.peek_word-word.ensures.view ∙ c.peek_word-entry.ensures.view ∙ c.gain.ensures.view ∙ shared_gained v c.requires.shared (c.args.i + 1) in
    let o = c.lose.ensures.shared (subst (λ (u : View). IsNamedTwice u (c.args.i + 1)) (sym e) (mid_linked v c.requires.shared c.args.i c.requires.index)) in
    c.lose.ensures.view ∙ (λ k. lost (o k) (e k) (c.args.i + 1)) ∙ back v c.requires.shared c.args.i c.requires.index
