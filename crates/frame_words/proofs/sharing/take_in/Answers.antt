use Rattle.std.proofs.Common.{ℕ, ◌*◌, sym, ap, ◌∙◌}
use Rattle.frame_words.specs.Plays.{Mine}
use Rattle.frame_words.proofs.Calls.{has_word, looks_again, same_frames}
use Rattle.frame_words.proofs.Unions.{joins, joined_frames}
use Rattle.frame_words.proofs.sharing.take_in.Goals as goal

pub join_seat-requires : goal.join_seat-requires
join_seat-requires c =
    let t = c.args.t.now in
    let h = c.args.h.now in
    let o = c.args.other in (
      c.requires.of,
      c.requires.other_of,
      o.bare,
      has_word t.frames _ t.some t.sized,
      joins _ _ _ h.seat.me.0 o.seat.me.0
          (same_frames _ _ (sym h.sized ∙ ap (λ z. z.words) c.requires.of ∙ t.sized) ∙ sym t.keyed)
          c.requires.few,
    )

pub load-requires : goal.load-requires
load-requires c =
    let t = c.args.t.now in
    (c.join_seat.ensures.0 ∙ c.requires.of, has_word t.frames _ t.some t.sized, looks_again _ _ _ _)

pub invariant_of-h : goal.invariant_of-h
invariant_of-h c =
    let h = c.args.h.now in
    let j = c.join_seat.ensures in
    let e = c.load.ensures in
    record {
      sound = e.2.sound;
      sized = ap (λ z. z.words) (e.0 ∙ j.0) ∙ h.sized
          ∙ sym (ap (λ (k : ℕ). k * 513) (ap (λ (m : Mine). m.0.view.frames) (e.2.same ∙ j.2)
          ∙ joined_frames h.seat.me.0.view c.args.other.seat.me.0.view));
      bare = ap (λ (m : Mine). m.1) (e.2.same ∙ j.2) ∙ h.bare;
    }

pub returns-clause-view : goal.returns-clause-view
returns-clause-view c = ap (λ (m : Mine). m.0.view) (c.load.ensures.2.same ∙ c.join_seat.ensures.2)
