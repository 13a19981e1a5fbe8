use Rattle.std.proofs.Common.{refl, sym, ap, ◌∙◌, arith, lit<}
use Rattle.std.proofs.Common.{true, false, Some}
use Rattle.plain_space.specs.Space.{flat_in}
use Rattle.plain_space.proofs.Lists.{page_is_whole}
use Rattle.plain_space.proofs.Flats.{place_allowed, passes_on_page, on_false, on_true, page_bytes}
use Rattle.plain_space.proofs.pages.Pages.fetch_on.Goals as goal

pub returns-then-not-page-clause-ends : goal.returns-then-not-page-clause-ends
returns-then-not-page-clause-ends c =
    let allowed = place_allowed c.args.self.now.regions.items c.args.self.now.list.items _
    c.args.i c.index-page.result.now c.requires.sound.ordered c.requires.place
    c.index-page.ensures in
    on_false _ _ _ (passes_on_page (λ p. p.executable) c.args.self.now.regions.items c.args.at 4
    false (omega arith) (lit< tt) (omega (arith, c.requires.aligned))
    (ap (λ p. p.executable) allowed ∙ c.if-not-page.true)) refl

pub read_word-requires : goal.read_word-requires
read_word-requires c =
    let page = c.index-page.result.now in
    let whole = page_is_whole _ 0 c.args.self.now.list.items c.args.i page
    c.requires.sound.ordered c.requires.place.within in
    rw (c.deref.ensures.value, c.index-page.ensures, whole) (omega (arith, c.requires.aligned))

pub returns-clause-value : goal.returns-clause-value
returns-clause-value c =
    let found = c.requires.place.found c.index-page.result.now
    ∙ ap Some (sym c.index-page.ensures) in
    c.read_word.ensures (flat_in c.args.self.now).memory c.args.at
    (rw c.deref.ensures.value (page_bytes c.args.self.now.regions.items
    c.args.self.now.list.items c.args.at 4 c.index-page.result.now (omega arith)
    (omega (arith, c.requires.aligned)) found))

pub returns-clause-ends : goal.returns-clause-ends
returns-clause-ends c =
    let allowed = place_allowed c.args.self.now.regions.items c.args.self.now.list.items _
    c.args.i c.index-page.result.now c.requires.sound.ordered c.requires.place
    c.index-page.ensures in
    on_true _ _ _ (passes_on_page (λ p. p.executable) c.args.self.now.regions.items c.args.at 4
    true (omega arith) (lit< tt) (omega (arith, c.requires.aligned))
    (ap (λ p. p.executable) allowed ∙ c.if-not-page.false)) refl
