use Rattle.std.proofs.lemmas.Bool.{lt-ltb, le-ltb}
use Rattle.counted_space.proofs.Lists.{span-is, from_listed, from_after, from_neither}
use Rattle.counted_store.proofs.marks.has_span.Goals as goal

pub returns-then-listed : goal.returns-then-listed
returns-then-listed g c =
    from_listed _ _ _ _ c.has_between-listed.ensures c.if-listed.true
    (span-is (g.P.PageSet.numbers c.args.pages.now) c.args.first c.args.page c.args.size
    c.requires.order
    c.requires.some)

pub returns-then-first-page : goal.returns-then-first-page
returns-then-first-page g c =
    from_after _ _ _ _ _ c.has_between-listed.ensures c.if-listed.false
    (lt-ltb c.args.first c.args.page c.if-first-page.true)
    (span-is (g.P.PageSet.numbers c.args.pages.now) c.args.first c.args.page c.args.size
    c.requires.order
    c.requires.some)

pub returns-else-first-page : goal.returns-else-first-page
returns-else-first-page g c =
    from_neither _ _ _ _ _ c.has_between-listed.ensures c.if-listed.false
    (le-ltb c.args.first c.args.page c.if-first-page.false)
    (span-is (g.P.PageSet.numbers c.args.pages.now) c.args.first c.args.page c.args.size
    c.requires.order
    c.requires.some)
