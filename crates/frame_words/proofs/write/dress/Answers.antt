use Rattle.std.proofs.Common.{◌*◌, sym, ap, ◌∙◌}
use Rattle.frame_model.specs.declared.view.View.{View}
use Rattle.frame_words.proofs.Calls.{dresses}
use Rattle.frame_words.proofs.write.dress.Goals as goal

pub store-requires : goal.store-requires
store-requires c =
    let h = c.args.h.now in
    let p = dresses _ _ _ _ h.seat.me h.sound (sym (ap (λ z. z.words) c.requires.of) ∙ h.sized) _ c.args.f.0 c.args.kind _ c.meta_place.ensures c.kind_word.ensures c.requires.loose c.requires.clear in
    (c.requires.of, p.0, p.1)

pub invariant_of-h : goal.invariant_of-h
invariant_of-h c =
    let h = c.args.h.now in
    let e = c.store.ensures in
    let v = e.2.view c.args.f.0 c.args.kind c.meta_place.ensures c.kind_word.ensures in
    record {
      sound = e.2.sound;
      sized = ap (λ z. z.words) e.0 ∙ h.sized ∙ sym (ap (λ (u : View). u.frames * 513) v);
      bare = e.2.slots ∙ h.bare;
    }

pub returns-clause-view : goal.returns-clause-view
returns-clause-view c = c.store.ensures.2.view c.args.f.0 c.args.kind c.meta_place.ensures c.kind_word.ensures
