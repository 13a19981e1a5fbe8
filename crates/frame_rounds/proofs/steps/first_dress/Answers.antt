use Rattle.std.proofs.Common.{sym, ap, subst, ◌∙◌}
use Rattle.frame_model.specs.declared.view.View.{View}
use Rattle.frame_model.specs.declared.kind.Kind.TheVariants.{Data}
use Rattle.frame_model.specs.Views.{IsLoose}
use Rattle.frame_words.specs.Steps.{dressed, IsClear}
use Rattle.frame_rounds.proofs.Turns as turns
use Rattle.frame_rounds.proofs.steps.first_dress.Goals as goal

pub dress-requires-clause-loose : goal.dress-requires-clause-loose
dress-requires-clause-loose c = subst (λ (v : View). IsLoose v 1) (sym c.requires.view) turns.first_loose

pub dress-requires-clause-clear : goal.dress-requires-clause-clear
dress-requires-clause-clear c = subst (λ (v : View). IsClear v 1) (sym c.requires.view) turns.first_clear

pub returns-clause-dressed : goal.returns-clause-dressed
returns-clause-dressed c = c.dress.ensures.view ∙ ap (λ (v : View). dressed v 1 Data) c.requires.view
