use Rattle.std.proofs.Common.{ℕ, ◌*◌, sym, ap, ◌∙◌}
use Rattle.frame_model.specs.declared.view.View.{View}
use Rattle.frame_steps.proofs.Calls.{gains}
use Rattle.frame_steps.proofs.Keeps.{gained_frames}
use Rattle.frame_steps.proofs.counts.gain.Goals as goal

pub fetch_add-requires : goal.fetch_add-requires
fetch_add-requires c =
    let h = c.args.h.now in
    let p = gains _ _ _ _ h.seat.me h.sound (sym (ap (λ z. z.words) c.requires.of) ∙ h.sized) _ c.args.f.0 c.meta_place.ensures c.requires.reached c.requires.few in
    (c.requires.of, p.0, p.1)

pub invariant_of-h : goal.invariant_of-h
invariant_of-h c =
    let h = c.args.h.now in
    let e = c.fetch_add.ensures in
    let v = e.2.view c.args.f.0 c.meta_place.ensures in
    record {
      sound = e.2.sound;
      sized = ap (λ z. z.words) e.0 ∙ h.sized ∙ sym (ap (λ (k : ℕ). k * 513) (ap (λ (u : View). u.frames) v ∙ gained_frames h.seat.me.0.view c.args.f.0));
      bare = e.2.slots ∙ h.bare;
    }

pub returns-clause-view : goal.returns-clause-view
returns-clause-view c = c.fetch_add.ensures.2.view c.args.f.0 c.meta_place.ensures
