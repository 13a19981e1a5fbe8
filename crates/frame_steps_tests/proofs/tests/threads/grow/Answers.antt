use Rattle.std.proofs.Common.{ℕ, ◌+◌, ◌<◌, sym, ap, subst, ◌∙◌}
use Rattle.frame_model.specs.declared.kind.Kind.TheVariants.{Leaf}
use Rattle.frame_model.specs.declared.view.View.{View}
use Rattle.frame_model.specs.Words.{kind_number}
use Rattle.frame_model.specs.Views.{Has, kind_of, IsLoose}
use Rattle.frame_words.specs.Steps.{dressed, IsClear}
use Rattle.frame_steps.specs.Counted.{entered, MayStand, HasRoom, gained}
use Rattle.frame_views.proofs.Giving.{own_reached}
use Rattle.frame_steps_tests.specs.Mids.{IsPlaced}
use Rattle.frame_steps_tests.proofs.Placing as placing
use Rattle.frame_steps_tests.proofs.tests.threads.grow.Goals as goal

pub dress-requires-clause-loose : goal.dress-requires-clause-loose
dress-requires-clause-loose c =
    placing.mid_loose c.args.i c.args.h.now.seat.me.0.view c.requires.placed c.requires.index

pub dress-requires-clause-clear : goal.dress-requires-clause-clear
dress-requires-clause-clear c =
    placing.mid_clear c.args.i c.args.h.now.seat.me.0.view c.requires.placed c.requires.index

pub dress-requires-2-clause-loose : goal.dress-requires-2-clause-loose
dress-requires-2-clause-loose c =
    subst (λ (u : View). IsLoose u (c.args.i + 513)) (sym c.dress.ensures.view)
    (placing.leaf_loose c.args.i c.args.h.now.seat.me.0.view c.requires.placed c.requires.index)

pub dress-requires-2-clause-clear : goal.dress-requires-2-clause-clear
dress-requires-2-clause-clear c =
    subst (λ (u : View). IsClear u (c.args.i + 513)) (sym c.dress.ensures.view)
    (placing.leaf_clear c.args.i c.args.h.now.seat.me.0.view c.requires.placed c.requires.index)

pub gain-requires-clause-reached : goal.gain-requires-clause-reached
gain-requires-clause-reached c =
    let v = c.args.h.now.seat.me.0.view in
    let leaf = c.args.i + 513 in
    let e = c.dress-2.ensures.view ∙ ap (λ (u : View). dressed u leaf Leaf) c.dress.ensures.view in
    own_reached c.dress-2.new.h.seat.me.0.view leaf
    (subst (λ (u : View). Has leaf u.owned) (sym e)
    (placing.leaf_owned c.args.i v c.requires.placed c.requires.index))

pub set_entry-requires-clause-owned : goal.set_entry-requires-clause-owned
set_entry-requires-clause-owned c =
    let v = c.args.h.now.seat.me.0.view in
    let leaf = c.args.i + 513 in
    let d = c.dress-2.ensures.view ∙ ap (λ (u : View). dressed u leaf Leaf) c.dress.ensures.view in
    let g = placing.leaf_gained c.args.i v c.requires.placed c.requires.index in
    let e = c.gain.ensures.view ∙ ap (λ (u : View). gained u leaf) d ∙ g in
    subst (λ (u : View). Has (c.args.i + 1) u.owned) (sym e)
    (placing.mid_owned c.args.i v c.requires.placed c.requires.index)

pub set_entry-requires-clause-a_table : goal.set_entry-requires-clause-a_table
set_entry-requires-clause-a_table c =
    let v = c.args.h.now.seat.me.0.view in
    let leaf = c.args.i + 513 in
    let d = c.dress-2.ensures.view ∙ ap (λ (u : View). dressed u leaf Leaf) c.dress.ensures.view in
    let g = placing.leaf_gained c.args.i v c.requires.placed c.requires.index in
    let e = c.gain.ensures.view ∙ ap (λ (u : View). gained u leaf) d ∙ g in
    subst (λ (u : View). 0 < kind_number (kind_of u (c.args.i + 1))) (sym e)
    (placing.mid_table c.args.i v c.requires.placed c.requires.index)

pub set_entry-requires-clause-stands : goal.set_entry-requires-clause-stands
set_entry-requires-clause-stands c =
    let v = c.args.h.now.seat.me.0.view in
    let leaf = c.args.i + 513 in
    let d = c.dress-2.ensures.view ∙ ap (λ (u : View). dressed u leaf Leaf) c.dress.ensures.view in
    let g = placing.leaf_gained c.args.i v c.requires.placed c.requires.index in
    let e = c.gain.ensures.view ∙ ap (λ (u : View). gained u leaf) d ∙ g in
    subst (λ (q : View × ℕ). MayStand q.0 (c.args.i + 1) q.1)
    (λ k. (sym e k, sym c.pointer.ensures k))
    (placing.leaf_stands c.args.i v c.requires.placed c.requires.index)

pub set_entry-requires-clause-room : goal.set_entry-requires-clause-room
set_entry-requires-clause-room c =
    let v = c.args.h.now.seat.me.0.view in
    let leaf = c.args.i + 513 in
    let d = c.dress-2.ensures.view ∙ ap (λ (u : View). dressed u leaf Leaf) c.dress.ensures.view in
    let g = placing.leaf_gained c.args.i v c.requires.placed c.requires.index in
    let e = c.gain.ensures.view ∙ ap (λ (u : View). gained u leaf) d ∙ g in
    subst (λ (q : View × ℕ). HasRoom q.0 (c.args.i + 1) c.args.i q.1)
    (λ k. (sym e k, sym c.pointer.ensures k))
    (placing.leaf_room c.args.i v c.requires.placed c.requires.index)

pub returns-clause-placed : goal.returns-clause-placed
returns-clause-placed c =
    let v = c.args.h.now.seat.me.0.view in
    let leaf = c.args.i + 513 in
    let d = c.dress-2.ensures.view ∙ ap (λ (u : View). dressed u leaf Leaf) c.dress.ensures.view in
    let g = placing.leaf_gained c.args.i v c.requires.placed c.requires.index in
    let e = c.gain.ensures.view ∙ ap (λ (u : View). gained u leaf) d ∙ g in
    subst (IsPlaced c.args.i (c.args.i + 1))
    (sym (c.set_entry.ensures.view
    ∙ (λ k. entered (e k) (c.args.i + 1) c.args.i (c.pointer.ensures k))))
    (placing.leaf_placed c.args.i v c.requires.placed c.requires.index)
