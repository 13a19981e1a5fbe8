use Rattle.std.proofs.Common.{sym, ap, subst, ◌∙◌}
use Rattle.frame_model.specs.declared.view.View.{View}
use Rattle.frame_model.specs.declared.kind.Kind.TheVariants.{Data, Leaf}
use Rattle.frame_model.specs.Views.{Has, reach, IsLoose}
use Rattle.frame_words.specs.Steps.{dressed, IsClear}
use Rattle.frame_rounds.proofs.Turns as turns
use Rattle.frame_rounds.proofs.steps.dress_round.Goals as goal

pub dress-requires-clause-loose : goal.dress-requires-clause-loose
dress-requires-clause-loose c =
    subst (λ (v : View). IsLoose v 1) (sym c.requires.view) turns.dressed_loose

pub dress-requires-clause-clear : goal.dress-requires-clause-clear
dress-requires-clause-clear c =
    subst (λ (v : View). IsClear v 1) (sym c.requires.view) turns.dressed_clear

pub peek_meta-seen-requires-clause-reached : goal.peek_meta-seen-requires-clause-reached
peek_meta-seen-requires-clause-reached c =
    let e = c.dress.ensures.view ∙ ap (λ (v : View). dressed v 1 Leaf) c.requires.view in
    subst (λ (v : View). Has 1 (reach v)) (sym e) turns.leaf_reaches

pub dress-requires-2-clause-loose : goal.dress-requires-2-clause-loose
dress-requires-2-clause-loose c =
    let e = c.peek_meta-seen.ensures.view ∙ c.dress.ensures.view
    ∙ ap (λ (v : View). dressed v 1 Leaf) c.requires.view in
    subst (λ (v : View). IsLoose v 1) (sym e) turns.leaf_loose

pub dress-requires-2-clause-clear : goal.dress-requires-2-clause-clear
dress-requires-2-clause-clear c =
    let e = c.peek_meta-seen.ensures.view ∙ c.dress.ensures.view
    ∙ ap (λ (v : View). dressed v 1 Leaf) c.requires.view in
    subst (λ (v : View). IsClear v 1) (sym e) turns.leaf_clear

pub returns-clause-same : goal.returns-clause-same
returns-clause-same c =
    let e = c.peek_meta-seen.ensures.view ∙ c.dress.ensures.view
    ∙ ap (λ (v : View). dressed v 1 Leaf) c.requires.view in
    c.dress-2.ensures.view ∙ ap (λ (v : View). dressed v 1 Data) e ∙ turns.dressed_again
