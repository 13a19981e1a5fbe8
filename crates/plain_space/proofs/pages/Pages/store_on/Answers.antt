use Rattle.std.proofs.Common.{ap, ◌∙◌, arith, true, false}
use Rattle.machine_model.specs.Instruction.{store_page_fault}
use Rattle.plain_space.proofs.Flats.{place_allowed, least_on_page, copy_fault, copy_ok}
use Rattle.plain_space.proofs.pages.Pages.store_on.Goals as goal

pub returns-then-not-page-clause-ends : goal.returns-then-not-page-clause-ends
returns-then-not-page-clause-ends c =
    let allowed = place_allowed c.args.self.now.regions.items c.args.self.now.list.items _
    c.args.i c.index-page.result.now c.requires.sound.ordered c.requires.place
    c.index-page.ensures in
    copy_fault _ store_page_fault c.args.at _ (least_on_page (λ p. p.writable)
    c.args.self.now.regions.items c.args.at c.args.n false (omega arith)
    (omega (arith, c.requires.size)) c.requires.within
    (ap (λ p. p.writable) allowed ∙ c.if-not-page.true))

pub returns-clause-ends : goal.returns-clause-ends
returns-clause-ends c =
    let allowed = place_allowed c.args.self.now.regions.items c.args.self.now.list.items _
    c.args.i c.index-page.result.now c.requires.sound.ordered c.requires.place
    c.index-page.ensures in
    copy_ok store_page_fault _ tt (least_on_page (λ p. p.writable)
    c.args.self.now.regions.items c.args.at c.args.n true (omega arith)
    (omega (arith, c.requires.size)) c.requires.within
    (ap (λ p. p.writable) allowed ∙ c.if-not-page.false))
