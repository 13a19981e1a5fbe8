use Rattle.std.proofs.Common.{sym, ap, subst, ◌∙◌}
use Rattle.frame_model.specs.declared.view.View.{View}
use Rattle.frame_model.specs.Views.{Has, reach}
use Rattle.frame_steps.specs.Counted.{gained, lost}
use Rattle.frame_rounds.proofs.Turns as turns
use Rattle.frame_rounds.proofs.steps.gain_round.Goals as goal

pub gain-requires-clause-reached : goal.gain-requires-clause-reached
gain-requires-clause-reached c =
    subst (λ (v : View). Has 0 (reach v)) (sym c.requires.view) turns.first_reaches

pub peek_meta-seen-requires-clause-reached : goal.peek_meta-seen-requires-clause-reached
peek_meta-seen-requires-clause-reached c =
    let e = c.gain.ensures.view ∙ ap (λ (v : View). gained v 0) c.requires.view in
    subst (λ (v : View). Has 0 (reach v)) (sym e) turns.gained_reaches

pub lose-requires-clause-referred : goal.lose-requires-clause-referred
lose-requires-clause-referred c =
    let e = c.peek_meta-seen.ensures.view ∙ c.gain.ensures.view
    ∙ ap (λ (v : View). gained v 0) c.requires.view in
    subst (λ (v : View). Has 0 v.references) (sym e) turns.gained_refers

pub returns-clause-same : goal.returns-clause-same
returns-clause-same c =
    let e = c.peek_meta-seen.ensures.view ∙ c.gain.ensures.view
    ∙ ap (λ (v : View). gained v 0) c.requires.view in
    let o = c.lose.ensures.own (subst (λ (v : View). Has 0 v.owned) (sym e) turns.gained_owns) in
    c.lose.ensures.view ∙ (λ k. lost (o k) (e k) 0) ∙ turns.gained_again
