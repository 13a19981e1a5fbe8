use Rattle.std.proofs.Common.{ℕ, ◌+◌, ◌<◌, sym, subst, ◌∙◌}
use Rattle.frame_model.specs.declared.view.View.{View}
use Rattle.frame_model.specs.Words.{kind_number}
use Rattle.frame_model.specs.Views.{Has, kind_of}
use Rattle.frame_steps.specs.Counted.{entered, MayStand, HasRoom}
use Rattle.frame_views.proofs.Giving.{own_reached}
use Rattle.frame_steps_tests.specs.Mids.{IsPlaced}
use Rattle.frame_steps_tests.proofs.Placing as placing
use Rattle.frame_steps_tests.proofs.tests.threads.place.Goals as goal

pub gain-requires-clause-reached : goal.gain-requires-clause-reached
gain-requires-clause-reached c =
    let v = c.grow.new.h.seat.me.0.view in
    own_reached v (c.args.i + 1)
    (placing.top_owned c.args.i v c.grow.ensures.placed c.requires.index)

pub set_entry-requires-clause-owned : goal.set_entry-requires-clause-owned
set_entry-requires-clause-owned c =
    let v = c.grow.new.h.seat.me.0.view in
    let p = c.grow.ensures.placed in
    let e = c.gain.ensures.view ∙ placing.top_gained c.args.i v p c.requires.index in
    subst (λ (u : View). Has 0 u.owned) (sym e) (placing.root_owned c.args.i v p c.requires.index)

pub set_entry-requires-clause-a_table : goal.set_entry-requires-clause-a_table
set_entry-requires-clause-a_table c =
    let v = c.grow.new.h.seat.me.0.view in
    let p = c.grow.ensures.placed in
    let e = c.gain.ensures.view ∙ placing.top_gained c.args.i v p c.requires.index in
    subst (λ (u : View). 0 < kind_number (kind_of u 0)) (sym e)
    (placing.root_table c.args.i v p c.requires.index)

pub set_entry-requires-clause-stands : goal.set_entry-requires-clause-stands
set_entry-requires-clause-stands c =
    let v = c.grow.new.h.seat.me.0.view in
    let p = c.grow.ensures.placed in
    let e = c.gain.ensures.view ∙ placing.top_gained c.args.i v p c.requires.index in
    subst (λ (q : View × ℕ). MayStand q.0 0 q.1) (λ k. (sym e k, sym c.pointer.ensures k))
    (placing.top_stands c.args.i v p c.requires.index)

pub set_entry-requires-clause-room : goal.set_entry-requires-clause-room
set_entry-requires-clause-room c =
    let v = c.grow.new.h.seat.me.0.view in
    let p = c.grow.ensures.placed in
    let e = c.gain.ensures.view ∙ placing.top_gained c.args.i v p c.requires.index in
    subst (λ (q : View × ℕ). HasRoom q.0 0 c.args.i q.1) (λ k. (sym e k, sym c.pointer.ensures k))
    (placing.top_room c.args.i v p c.requires.index)

pub returns-clause-placed : goal.returns-clause-placed
returns-clause-placed c =
    let v = c.grow.new.h.seat.me.0.view in
    let p = c.grow.ensures.placed in
    let e = c.gain.ensures.view ∙ placing.top_gained c.args.i v p c.requires.index in
    subst (IsPlaced (c.args.i + 1) (c.args.i + 1))
    (sym (c.set_entry.ensures.view ∙ (λ k. entered (e k) 0 c.args.i (c.pointer.ensures k))))
    (placing.top_placed c.args.i v p c.requires.index)
