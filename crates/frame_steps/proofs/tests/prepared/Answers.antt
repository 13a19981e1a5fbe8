use Rattle.std.proofs.Common.{sym, ap, subst, ◌∙◌}
use Rattle.frame_model.specs.declared.view.View.{View}
use Rattle.frame_model.specs.Views.{Has, reach, IsLoose}
use Rattle.frame_model.specs.declared.kind.Kind.TheVariants.{Leaf}
use Rattle.frame_words.specs.Steps.{dressed, IsClear}
use Rattle.frame_steps.specs.Counted.{gained}
use Rattle.frame_steps.proofs.FourFrames as four
use Rattle.frame_steps.proofs.tests.prepared.Goals as goal

pub dress-requires-clause-loose : goal.dress-requires-clause-loose
dress-requires-clause-loose c = subst (λ (v : View). IsLoose v 1) (sym c.requires.whole) four.first_loose

pub dress-requires-clause-clear : goal.dress-requires-clause-clear
dress-requires-clause-clear c = subst (λ (v : View). IsClear v 1) (sym c.requires.whole) four.first_clear

pub gain-requires-clause-reached : goal.gain-requires-clause-reached
gain-requires-clause-reached c =
    subst (λ (v : View). Has 0 (reach v)) (sym (c.dress.ensures.view ∙ ap (λ (v : View). dressed v 1 Leaf) c.requires.whole)) four.leaf_reaches

pub gain-requires-clause-few : goal.gain-requires-clause-few
gain-requires-clause-few c =
    subst four.HasFew (sym (c.dress.ensures.view ∙ ap (λ (v : View). dressed v 1 Leaf) c.requires.whole)) four.leaf_few

pub returns-clause-view : goal.returns-clause-view
returns-clause-view c = c.gain.ensures.view ∙ ap (λ (v : View). gained v 0) (c.dress.ensures.view ∙ ap (λ (v : View). dressed v 1 Leaf) c.requires.whole)
