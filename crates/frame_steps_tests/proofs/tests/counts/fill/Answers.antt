use Rattle.std.proofs.Common.{◌+◌, ◌/◌, ◌%◌, ◌<◌, length, sym, ap, subst, ◌∙◌, inl, refl}
use Rattle.frame_model.specs.declared.view.View.{View}
use Rattle.frame_model.specs.Words.{kind_number}
use Rattle.frame_model.specs.Views.{Has, reach, kind_of}
use Rattle.frame_steps.specs.Counted.{entered, MayStand, HasRoom}
use Rattle.frame_views.proofs.Giving.{referred_reached}
use Rattle.std.proofs.Common.{List, ℕ}
use Rattle.frame_steps_tests.specs.Filled.{IsFilled}
use Rattle.frame_steps_tests.proofs.Filling as filling
use Rattle.frame_steps_tests.proofs.tests.counts.fill.Goals as goal

pub gain-requires-clause-reached : goal.gain-requires-clause-reached
gain-requires-clause-reached c =
    let v = c.args.h.now.seat.me.0.view in
    let p = c.requires.filled in
    referred_reached v 0 (subst (λ (xs : List ℕ). Has 0 xs) (sym p.references) (inl refl))

pub gain-requires-clause-few : goal.gain-requires-clause-few
gain-requires-clause-few c =
    let v = c.args.h.now.seat.me.0.view in
    filling.few c.args.n v c.requires.filled c.requires.least c.requires.most

pub set_entry-requires-clause-owned : goal.set_entry-requires-clause-owned
set_entry-requires-clause-owned c =
    let v = c.args.h.now.seat.me.0.view in
    let r = c.requires in
    let e = c.gain.ensures.view ∙ filling.more_gained c.args.n v r.filled r.least r.most in
    subst (λ (u : View). Has (c.args.n / 512) u.owned) (sym e)
    (filling.table_owned c.args.n v r.filled r.least r.most)

pub set_entry-requires-clause-a_table : goal.set_entry-requires-clause-a_table
set_entry-requires-clause-a_table c =
    let v = c.args.h.now.seat.me.0.view in
    let r = c.requires in
    let e = c.gain.ensures.view ∙ filling.more_gained c.args.n v r.filled r.least r.most in
    subst (λ (u : View). 0 < kind_number (kind_of u (c.args.n / 512))) (sym e)
    (filling.is_table c.args.n v r.filled r.least r.most)

pub set_entry-requires-clause-stands : goal.set_entry-requires-clause-stands
set_entry-requires-clause-stands c =
    let v = c.args.h.now.seat.me.0.view in
    let r = c.requires in
    let e = c.gain.ensures.view ∙ filling.more_gained c.args.n v r.filled r.least r.most in
    subst (λ (u : View). MayStand u (c.args.n / 512) 219) (sym e)
    (filling.stands c.args.n v r.filled r.least r.most)

pub set_entry-requires-clause-room : goal.set_entry-requires-clause-room
set_entry-requires-clause-room c =
    let v = c.args.h.now.seat.me.0.view in
    let r = c.requires in
    let e = c.gain.ensures.view ∙ filling.more_gained c.args.n v r.filled r.least r.most in
    subst (λ (u : View). HasRoom u (c.args.n / 512) (c.args.n % 512) 219) (sym e)
    (filling.has_room c.args.n v r.filled r.least r.most)

pub returns-clause-filled : goal.returns-clause-filled
returns-clause-filled c =
    let v = c.args.h.now.seat.me.0.view in
    let r = c.requires in
    let e = c.gain.ensures.view ∙ filling.more_gained c.args.n v r.filled r.least r.most in
    subst (IsFilled (c.args.n + 1))
    (sym (c.set_entry.ensures.view
    ∙ ap (λ (u : View). entered u (c.args.n / 512) (c.args.n % 512) 219) e))
    (filling.filled c.args.n v r.filled r.least r.most)
