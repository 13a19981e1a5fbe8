use Rattle.std.proofs.Common.{◌<◌, sym, ap, subst, ◌∙◌}
use Rattle.frame_model.specs.declared.view.View.{View}
use Rattle.frame_model.specs.Words.{kind_number}
use Rattle.frame_model.specs.Views.{Has, kind_of}
use Rattle.frame_steps.specs.Counted.{entered, HasRoom}
use Rattle.frame_steps.proofs.FourFrames as four
use Rattle.frame_steps.proofs.tests.unnamed.Goals as goal

pub set_entry-requires-clause-owned : goal.set_entry-requires-clause-owned
set_entry-requires-clause-owned c = subst (λ (v : View). Has 1 v.owned) (sym c.requires.named) four.named_owns

pub set_entry-requires-clause-a_table : goal.set_entry-requires-clause-a_table
set_entry-requires-clause-a_table c = subst (λ (v : View). 0 < kind_number (kind_of v 1)) (sym c.requires.named) four.named_table

pub set_entry-requires-clause-room : goal.set_entry-requires-clause-room
set_entry-requires-clause-room c = subst (λ (v : View). HasRoom v 1 0 0) (sym c.requires.named) four.named_room

pub lose-last-requires-clause-referred : goal.lose-last-requires-clause-referred
lose-last-requires-clause-referred c =
    subst (λ (v : View). Has 0 v.references) (sym (c.set_entry.ensures.view ∙ ap (λ (v : View). entered v 1 0 0) c.requires.named)) four.unnamed_refers

pub peek_meta-requires-clause-reached : goal.peek_meta-requires-clause-reached
peek_meta-requires-clause-reached c =
    let e = c.set_entry.ensures.view ∙ ap (λ (v : View). entered v 1 0 0) c.requires.named in
    let o = c.lose-last.ensures.own (subst (λ (v : View). Has 0 v.owned) (sym e) four.unnamed_owns) in
    four.owned_reached c.lose-last.new.h.seat.me.0.view 0 (c.lose-last.ensures.loose o).owned
