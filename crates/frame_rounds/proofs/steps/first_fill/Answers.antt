use Rattle.std.proofs.Common.{sym, ap, subst, ◌∙◌}
use Rattle.frame_model.specs.declared.view.View.{View}
use Rattle.frame_model.specs.Views.{Has, kind_of}
use Rattle.frame_words.specs.Steps.{put}
use Rattle.frame_rounds.proofs.Turns as turns
use Rattle.frame_rounds.proofs.steps.first_fill.Goals as goal

pub put_word-requires-clause-owned : goal.put_word-requires-clause-owned
put_word-requires-clause-owned c =
    subst (λ (v : View). Has 3 v.owned) (sym c.requires.view) turns.third_owns

pub put_word-requires-clause-data : goal.put_word-requires-clause-data
put_word-requires-clause-data c = ap (λ (v : View). kind_of v 3) c.requires.view

pub returns-clause-filled : goal.returns-clause-filled
returns-clause-filled c = c.put_word.ensures.view ∙ ap (λ (v : View). put v 3 7 99) c.requires.view
