use Rattle.std.proofs.Common.{refl, sym, ap, ◌∙◌, arith, lit<}
use Rattle.std.proofs.Common.{true, false}
use Rattle.std.proofs.lemmas.Bool.{not-true, not-false}
use Rattle.plain_space.proofs.Flats.{passes_on_page, on_false, on_true, zero_word}
use Rattle.plain_space.proofs.pages.Pages.fetch_zeros.Goals as goal

pub returns-then-not-flags-clause-ends : goal.returns-then-not-flags-clause-ends
returns-then-not-flags-clause-ends c =
    let allowed = sym (rw c.deref.ensures.value at c.flags_in-flags.ensures) in
    on_false _ _ _ (passes_on_page (λ p. p.executable) c.args.self.now.regions.items c.args.at 4
    false (omega arith) (lit< tt) (omega (arith, c.requires.aligned))
    (ap (λ p. p.executable) allowed ∙ not-true _ c.if-not-flags.true)) refl

pub returns-clause-value : goal.returns-clause-value
returns-clause-value c =
    zero_word c.args.self.now.regions.items c.args.self.now.list.items c.args.at (omega arith)
    (omega (arith, c.requires.aligned)) c.requires.none

pub returns-clause-ends : goal.returns-clause-ends
returns-clause-ends c =
    let allowed = sym (rw c.deref.ensures.value at c.flags_in-flags.ensures) in
    on_true _ _ _ (passes_on_page (λ p. p.executable) c.args.self.now.regions.items c.args.at 4
    true (omega arith) (lit< tt) (omega (arith, c.requires.aligned))
    (ap (λ p. p.executable) allowed ∙ not-false _ c.if-not-flags.false)) refl
