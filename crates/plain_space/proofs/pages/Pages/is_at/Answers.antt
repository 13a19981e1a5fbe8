use Rattle.std.proofs.Common.{arith}
use Rattle.std.proofs.lemmas.Bool.{eqb-true}
use Rattle.plain_space.proofs.Lists.{place_of}
use Rattle.plain_space.proofs.pages.Pages.is_at.Goals as goal

pub returns-then-guess-len : goal.returns-then-guess-len
returns-then-guess-len c = λ same.
    place_of _ c.args.self.now.list.items c.args.number c.args.guess _ c.requires.ordered
    (omega (arith, c.if-guess-len.true, c.len.ensures)) c.index.ensures (eqb-true _ _ same)
