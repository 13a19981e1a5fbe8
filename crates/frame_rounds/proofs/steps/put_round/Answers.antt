use Rattle.std.proofs.Common.{sym, ap, subst, ◌∙◌}
use Rattle.frame_model.specs.declared.view.View.{View}
use Rattle.frame_model.specs.Views.{Has, reach, kind_of}
use Rattle.frame_words.specs.Steps.{put}
use Rattle.frame_rounds.proofs.Turns as turns
use Rattle.frame_rounds.proofs.steps.put_round.Goals as goal

pub put_word-requires-clause-owned : goal.put_word-requires-clause-owned
put_word-requires-clause-owned c =
    let p = c.requires.put in
    subst (λ (v : View). Has 0 v.owned) (sym p.1) (turns.put_owns p.0)

pub put_word-requires-clause-data : goal.put_word-requires-clause-data
put_word-requires-clause-data c = ap (λ (v : View). kind_of v 0) c.requires.put.1

pub peek_word-requires-clause-reached : goal.peek_word-requires-clause-reached
peek_word-requires-clause-reached c =
    let p = c.requires.put in
    let e = c.put_word.ensures.view ∙ ap (λ (v : View). put v 0 7 c.args.v) p.1
    ∙ turns.put_again p.0 c.args.v in
    subst (λ (v : View). Has 0 (reach v)) (sym e) (turns.put_reaches c.args.v)

pub returns-clause-put : goal.returns-clause-put
returns-clause-put c =
    let p = c.requires.put in
    let e = c.put_word.ensures.view ∙ ap (λ (v : View). put v 0 7 c.args.v) p.1
    ∙ turns.put_again p.0 c.args.v in
    (c.args.v, c.peek_word.ensures.view ∙ e)
