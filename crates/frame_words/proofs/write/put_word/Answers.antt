use Rattle.std.proofs.Common.{◌*◌, sym, ap, ◌∙◌}
use Rattle.frame_model.specs.declared.view.View.{View}
use Rattle.frame_words.proofs.Calls.{puts}
use Rattle.frame_words.proofs.write.put_word.Goals as goal

pub store-requires : goal.store-requires
store-requires c =
    let h = c.args.h.now in
    let p = puts _ _ _ _ h.seat.me h.sound (sym (ap (λ z. z.words) c.requires.of) ∙ h.sized) _ c.args.f.0 c.args.i c.args.v c.word_place.ensures c.requires.owned c.requires.data c.requires.index in
    (c.requires.of, p.0, p.1)

pub invariant_of-h : goal.invariant_of-h
invariant_of-h c =
    let h = c.args.h.now in
    let e = c.store.ensures in
    let v = e.2.view c.args.f.0 c.args.i c.requires.index c.word_place.ensures in
    record {
      sound = e.2.sound;
      sized = ap (λ z. z.words) e.0 ∙ h.sized ∙ sym (ap (λ (u : View). u.frames * 513) v);
      bare = e.2.slots ∙ h.bare;
    }
