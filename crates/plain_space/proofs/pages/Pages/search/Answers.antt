use Rattle.std.proofs.Common.{ap, ◌∙◌, arith}
use Rattle.std.proofs.lemmas.List.{get_or_default}
use Rattle.plain_space.proofs.Lists.{place_of, absent_from_split}
use Rattle.plain_space.proofs.pages.Pages.search.Goals as goal
use Rattle.plain_space.proofs.pages.Pages.search.Goals.{else-i-len-via-else-i-len}
use Rattle.plain_space.proofs.pages.Pages.search.Goals.{else-i-len-via-then-i-len+else-index-number}

pub returns-then-index-number : goal.returns-then-index-number
returns-then-index-number c =
    place_of _ c.args.self.now.list.items c.args.number c.place-i.result _ c.requires.ordered
    (omega (arith, c.if-i-len.true, c.len.ensures)) c.index.ensures c.if-index-number.true

pub returns-else-i-len : goal.returns-else-i-len
returns-else-i-len c =
    let pages = c.args.self.now.list.items in
    let i = c.place-i.result in
    elim c.else-i-len.branch [
      | else-i-len-via-then-i-len+else-index-number w ↦
          absent_from_split _ pages c.args.number i c.requires.ordered c.place-i.ensures
          (λ d lt e. w.if-index-number.false (ap (λ p. p.number) (w.index.ensures
          ∙ get_or_default pages i w.index.result.now d lt) ∙ e))
      | else-i-len-via-else-i-len w ↦
          absent_from_split _ pages c.args.number i c.requires.ordered c.place-i.ensures
          (λ d lt e. absurd (omega (arith, w.if-i-len.false, c.len.ensures)))
    ]
