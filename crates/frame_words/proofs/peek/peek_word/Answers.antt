use Rattle.std.proofs.Common.{sym, ap, ◌∙◌}
use Rattle.frame_words.proofs.Calls.{peeks}
use Rattle.frame_words.proofs.peek.peek_word.Goals as goal

pub load-requires : goal.load-requires
load-requires c =
    let h = c.args.h.now in
    let p = peeks _ _ _ _ h.seat.me h.sound (sym (ap (λ z. z.words) c.requires.of) ∙ h.sized) _ c.args.f.0 c.args.i c.word_place.ensures c.requires.reached c.requires.index in
    (c.requires.of, p.0, p.1)
