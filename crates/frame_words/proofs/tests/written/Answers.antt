use Rattle.std.proofs.Common.{◌≡◌, sym, ap, subst, ◌∙◌}
use Rattle.frame_model.specs.declared.kind.Kind.TheVariants.{Data}
use Rattle.frame_model.specs.declared.view.View.{View}
use Rattle.frame_model.specs.Views.{Has, kind_of, reach}
use Rattle.frame_words.specs.Steps.{put}
use Rattle.frame_words.proofs.FourFrames as four
use Rattle.frame_words.proofs.tests.written.Goals as goal

pub put_word-requires-clause-owned : goal.put_word-requires-clause-owned
put_word-requires-clause-owned c = subst (λ (v : View). Has 3 v.owned) (sym c.requires.given) four.given_owns

pub put_word-requires-clause-data : goal.put_word-requires-clause-data
put_word-requires-clause-data c = subst (λ (v : View). kind_of v 3 ≡ Data) (sym c.requires.given) four.given_data

pub peek_word-requires-clause-reached : goal.peek_word-requires-clause-reached
peek_word-requires-clause-reached c =
    subst (λ (v : View). Has 3 (reach v)) (sym (c.put_word.ensures.view ∙ ap (λ (v : View). put v 3 7 99) c.requires.given)) four.written_reaches

pub returns-clause-view : goal.returns-clause-view
returns-clause-view c = c.peek_word.ensures.view ∙ c.put_word.ensures.view ∙ ap (λ (v : View). put v 3 7 99) c.requires.given
