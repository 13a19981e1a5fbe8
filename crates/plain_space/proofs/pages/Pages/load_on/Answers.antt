use Rattle.std.proofs.Common.{sym, ap, ◌∙◌, arith, true, false, Some}
use Rattle.machine_model.specs.Instruction.{load_page_fault}
use Rattle.plain_space.specs.Space.{flat_in}
use Rattle.plain_space.proofs.Lists.{page_is_whole}
use Rattle.plain_space.proofs.Flats.{place_allowed, least_on_page, ends_fault, ends_ok, page_bytes}
use Rattle.plain_space.proofs.pages.Pages.load_on.Goals as goal

pub returns-then-not-page-clause-ends : goal.returns-then-not-page-clause-ends
returns-then-not-page-clause-ends c =
    let allowed = place_allowed c.args.self.now.regions.items c.args.self.now.list.items _
    c.args.i c.index-page.result.now c.requires.sound.ordered c.requires.place
    c.index-page.ensures in
    ends_fault _ load_page_fault c.args.at _ (least_on_page (λ p. p.readable)
    c.args.self.now.regions.items c.args.at c.args.n false (omega arith)
    (omega (arith, c.requires.size)) c.requires.within
    (ap (λ p. p.readable) allowed ∙ c.if-not-page.true))

pub read_number-requires-clause-within : goal.read_number-requires-clause-within
read_number-requires-clause-within c =
    let page = c.index-page.result.now in
    let whole = page_is_whole _ 0 c.args.self.now.list.items c.args.i page
    c.requires.sound.ordered c.requires.place.within in
    rw (c.deref.ensures.value, c.index-page.ensures, whole) c.requires.within

pub returns-clause-value : goal.returns-clause-value
returns-clause-value c =
    let found = c.requires.place.found c.index-page.result.now
    ∙ ap Some (sym c.index-page.ensures) in
    c.read_number.ensures (flat_in c.args.self.now).memory c.args.at
    (rw c.deref.ensures.value (page_bytes c.args.self.now.regions.items
    c.args.self.now.list.items c.args.at c.args.n c.index-page.result.now (omega arith)
    c.requires.within found))

pub returns-clause-ends : goal.returns-clause-ends
returns-clause-ends c =
    let allowed = place_allowed c.args.self.now.regions.items c.args.self.now.list.items _
    c.args.i c.index-page.result.now c.requires.sound.ordered c.requires.place
    c.index-page.ensures in
    ends_ok load_page_fault _ c.read_number.result (least_on_page (λ p. p.readable)
    c.args.self.now.regions.items c.args.at c.args.n true (omega arith)
    (omega (arith, c.requires.size)) c.requires.within
    (ap (λ p. p.readable) allowed ∙ c.if-not-page.false))
