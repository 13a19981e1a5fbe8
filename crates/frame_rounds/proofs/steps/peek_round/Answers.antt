use Rattle.std.proofs.Common.{sym, subst}
use Rattle.frame_model.specs.declared.view.View.{View}
use Rattle.frame_model.specs.Views.{Has, reach}
use Rattle.frame_rounds.proofs.Turns as turns
use Rattle.frame_rounds.proofs.steps.peek_round.Goals as goal

pub peek_word-requires-clause-reached : goal.peek_word-requires-clause-reached
peek_word-requires-clause-reached c = subst (λ (v : View). Has 0 (reach v)) (sym c.requires.view) (turns.put_reaches 99)
