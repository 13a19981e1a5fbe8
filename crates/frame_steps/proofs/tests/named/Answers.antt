use Rattle.std.proofs.Common.{◌<◌, sym, ap, subst, ◌∙◌}
use Rattle.frame_model.specs.declared.view.View.{View}
use Rattle.frame_model.specs.Words.{kind_number}
use Rattle.frame_model.specs.Views.{Has, kind_of, reach}
use Rattle.frame_steps.specs.Counted.{entered, MayStand}
use Rattle.frame_steps.proofs.FourFrames as four
use Rattle.frame_steps.proofs.tests.named.Goals as goal

pub set_entry-requires-clause-owned : goal.set_entry-requires-clause-owned
set_entry-requires-clause-owned c = subst (λ (v : View). Has 1 v.owned) (sym c.requires.prepared) four.referred_owns

pub set_entry-requires-clause-a_table : goal.set_entry-requires-clause-a_table
set_entry-requires-clause-a_table c = subst (λ (v : View). 0 < kind_number (kind_of v 1)) (sym c.requires.prepared) four.referred_table

pub set_entry-requires-clause-stands : goal.set_entry-requires-clause-stands
set_entry-requires-clause-stands c = subst (λ (v : View). MayStand v 1 471) (sym c.requires.prepared) four.entry_stands

pub peek_meta-requires-clause-reached : goal.peek_meta-requires-clause-reached
peek_meta-requires-clause-reached c =
    subst (λ (v : View). Has 0 (reach v)) (sym (c.set_entry.ensures.view ∙ ap (λ (v : View). entered v 1 0 471) c.requires.prepared)) four.named_reaches

pub returns-clause-view : goal.returns-clause-view
returns-clause-view c = c.peek_meta.ensures.view ∙ c.set_entry.ensures.view ∙ ap (λ (v : View). entered v 1 0 471) c.requires.prepared
