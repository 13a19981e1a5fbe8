use Rattle.std.proofs.Common.{◌<◌, sym, ap, subst, ◌∙◌}
use Rattle.frame_model.specs.declared.view.View.{View}
use Rattle.frame_model.specs.Words.{kind_number}
use Rattle.frame_model.specs.Views.{Has, reach, kind_of}
use Rattle.frame_steps.specs.Counted.{entered, MayStand, HasRoom}
use Rattle.frame_rounds.proofs.Turns as turns
use Rattle.frame_rounds.proofs.steps.entry_round.Goals as goal

pub set_entry-requires-clause-owned : goal.set_entry-requires-clause-owned
set_entry-requires-clause-owned c =
    subst (λ (v : View). Has 1 v.owned) (sym c.requires.view) turns.referred_owns

pub set_entry-requires-clause-a_table : goal.set_entry-requires-clause-a_table
set_entry-requires-clause-a_table c =
    subst (λ (v : View). 0 < kind_number (kind_of v 1)) (sym c.requires.view) turns.referred_table

pub set_entry-requires-clause-stands : goal.set_entry-requires-clause-stands
set_entry-requires-clause-stands c =
    subst (λ (v : View). MayStand v 1 471) (sym c.requires.view) turns.entry_stands

pub peek_word-seen-requires-clause-reached : goal.peek_word-seen-requires-clause-reached
peek_word-seen-requires-clause-reached c =
    let e = c.set_entry.ensures.view ∙ ap (λ (v : View). entered v 1 0 471) c.requires.view in
    subst (λ (v : View). Has 1 (reach v)) (sym e) turns.named_reaches

pub set_entry-requires-2-clause-owned : goal.set_entry-requires-2-clause-owned
set_entry-requires-2-clause-owned c =
    let e = c.peek_word-seen.ensures.view ∙ c.set_entry.ensures.view
    ∙ ap (λ (v : View). entered v 1 0 471) c.requires.view in
    subst (λ (v : View). Has 1 v.owned) (sym e) turns.named_owns

pub set_entry-requires-2-clause-a_table : goal.set_entry-requires-2-clause-a_table
set_entry-requires-2-clause-a_table c =
    let e = c.peek_word-seen.ensures.view ∙ c.set_entry.ensures.view
    ∙ ap (λ (v : View). entered v 1 0 471) c.requires.view in
    subst (λ (v : View). 0 < kind_number (kind_of v 1)) (sym e) turns.named_table

pub set_entry-requires-2-clause-room : goal.set_entry-requires-2-clause-room
set_entry-requires-2-clause-room c =
    let e = c.peek_word-seen.ensures.view ∙ c.set_entry.ensures.view
    ∙ ap (λ (v : View). entered v 1 0 471) c.requires.view in
    subst (λ (v : View). HasRoom v 1 0 0) (sym e) turns.named_room

pub returns-clause-same : goal.returns-clause-same
returns-clause-same c =
    let e = c.peek_word-seen.ensures.view ∙ c.set_entry.ensures.view
    ∙ ap (λ (v : View). entered v 1 0 471) c.requires.view in
    c.set_entry-2.ensures.view ∙ ap (λ (v : View). entered v 1 0 0) e ∙ turns.entered_again
