use Rattle.std.proofs.Common.{ℕ, ◌*◌, sym, ap, ◌∙◌}
use Rattle.frame_model.specs.declared.view.View.{View}
use Rattle.frame_steps.proofs.Calls.{enters}
use Rattle.frame_steps.proofs.Keeps.{entered_frames}
use Rattle.frame_steps.proofs.entries.set_entry.Goals as goal

pub store-requires : goal.store-requires
store-requires c =
    let h = c.args.h.now in
    let p = enters _ _ _ _ h.seat.me h.sound (sym (ap (λ z. z.words) c.requires.of) ∙ h.sized) _ c.args.f.0 c.args.i c.args.entry c.word_place.ensures c.requires.owned c.requires.a_table c.requires.index c.requires.stands c.requires.room in
    (c.requires.of, p.0, p.1)

pub invariant_of-h : goal.invariant_of-h
invariant_of-h c =
    let h = c.args.h.now in
    let e = c.store.ensures in
    let v = e.2.view c.args.f.0 c.args.i c.requires.index c.word_place.ensures in
    record {
      sound = e.2.sound;
      sized = ap (λ z. z.words) e.0 ∙ h.sized ∙ sym (ap (λ (k : ℕ). k * 513) (ap (λ (u : View). u.frames) v ∙ entered_frames h.seat.me.0.view c.args.f.0 c.args.i c.args.entry));
      bare = e.2.slots ∙ h.bare;
    }

pub returns-clause-view : goal.returns-clause-view
returns-clause-view c = c.store.ensures.2.view c.args.f.0 c.args.i c.requires.index c.word_place.ensures
