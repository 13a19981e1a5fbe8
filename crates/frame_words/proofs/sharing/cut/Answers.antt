use Rattle.std.proofs.Common.{ℕ, ◌*◌, sym, ap, subst, ◌∙◌}
use Rattle.frame_model.specs.Views.{IsSound}
use Rattle.frame_words.specs.Plays.{Mine}
use Rattle.frame_words.proofs.Calls.{has_word}
use Rattle.frame_words.proofs.Shares.{kept_frames, given_frames, kept_sound, given_sound, splits}
use Rattle.frame_words.proofs.sharing.cut.Goals as goal

pub split_seat-seat-requires : goal.split_seat-seat-requires
split_seat-seat-requires g c =
    let t = c.args.t.now in
    (c.requires.of, has_word t.frames _ t.some t.sized, splits _ _ _ g.P.Named.part c.requires.there c.requires.some_stake c.requires.rest)

pub invariant_of-h : goal.invariant_of-h
invariant_of-h g c =
    let h = c.args.h.now in
    let e = c.split_seat-seat.ensures in
    let part = g.P.Named.part in
    record {
      sound = subst IsSound (sym (ap (λ (m : Mine). m.0.view) e.2)) (kept_sound h.seat.me.0.view h.sound part c.requires.there c.requires.rest);
      sized = ap (λ z. z.words) e.0 ∙ h.sized ∙ sym (ap (λ (k : ℕ). k * 513) (ap (λ (m : Mine). m.0.view.frames) e.2 ∙ kept_frames part h.seat.me.0.view));
      bare = ap (λ (m : Mine). m.1) e.2 ∙ h.bare;
    }

pub invariant_of-result : goal.invariant_of-result
invariant_of-result g c =
    let h = c.args.h.now in
    let e = c.split_seat-seat.ensures in
    let part = g.P.Named.part in
    record {
      sound = subst IsSound (sym (ap (λ (m : Mine). m.0.view) e.4)) (given_sound h.seat.me.0.view h.sound part c.requires.there c.requires.some_stake);
      sized = ap (λ z. z.words) e.3 ∙ h.sized ∙ sym (ap (λ (k : ℕ). k * 513) (ap (λ (m : Mine). m.0.view.frames) e.4 ∙ given_frames part h.seat.me.0.view));
      bare = ap (λ (m : Mine). m.1) e.4;
    }
