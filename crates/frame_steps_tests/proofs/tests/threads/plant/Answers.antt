use Rattle.std.proofs.Common.{sym, ap, subst, ◌∙◌}
use Rattle.frame_model.specs.declared.view.View.{View}
use Rattle.frame_model.specs.declared.kind.Kind.TheVariants.{Root}
use Rattle.frame_model.specs.Views.{IsLoose}
use Rattle.frame_words.specs.Steps.{dressed, IsClear}
use Rattle.frame_steps_tests.specs.Mids.{IsPlaced}
use Rattle.frame_steps_tests.proofs.Placing.{first_loose, first_clear, start}
use Rattle.frame_steps_tests.proofs.tests.threads.plant.Goals as goal

pub dress-requires-clause-loose : goal.dress-requires-clause-loose
dress-requires-clause-loose c = subst (λ (u : View). IsLoose u 0) (sym c.requires.whole) first_loose

pub dress-requires-clause-clear : goal.dress-requires-clause-clear
dress-requires-clause-clear c = subst (λ (u : View). IsClear u 0) (sym c.requires.whole) first_clear

pub loop-i-init : goal.loop-i-init
loop-i-init c = (subst (IsPlaced 0 0) (sym (c.dress.ensures.view ∙ ap (λ (u : View). dressed u 0 Root) c.requires.whole)) start, c.dress.ensures.beside ∙ c.requires.of)
