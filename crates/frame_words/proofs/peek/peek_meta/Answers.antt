use Rattle.std.proofs.Common.{sym, ap, ◌∙◌}
use Rattle.frame_words.proofs.Calls.{peeks_at_meta}
use Rattle.frame_words.proofs.peek.peek_meta.Goals as goal

pub load-requires : goal.load-requires
load-requires c =
    let h = c.args.h.now in
    let p = peeks_at_meta _ _ _ _ h.seat.me h.sound (sym (ap (λ z. z.words) c.requires.of) ∙ h.sized) _ c.args.f.0 c.meta_place.ensures c.requires.reached in
    (c.requires.of, p.0, p.1)

pub returns-clause-least : goal.returns-clause-least
returns-clause-least c = c.load.ensures.2.least c.args.f.0 c.meta_place.ensures

pub returns-clause-own : goal.returns-clause-own
returns-clause-own c = λ own. c.load.ensures.2.own c.args.f.0 c.meta_place.ensures own
