use Rattle.std.proofs.Common.{sym, ap, subst}
use Rattle.frame_model.specs.Views.{OwnsAll}
use Rattle.frame_words.specs.Plays.{Mine}
use Rattle.frame_words.proofs.Calls.{has_word, looks_whole}
use Rattle.frame_words.proofs.sharing.tell_whole.Goals as goal

pub load-requires : goal.load-requires
load-requires c =
    let t = c.args.t.now in
    (c.requires.of, has_word t.frames _ t.some t.sized, looks_whole _ _ _ _)

pub returns-clause-all : goal.returns-clause-all
returns-clause-all c =
    let e = c.load.ensures.2 in
    subst OwnsAll (sym (ap (λ (m : Mine). m.0.view) e.same))
    (e.all c.requires.alone c.requires.whole)
