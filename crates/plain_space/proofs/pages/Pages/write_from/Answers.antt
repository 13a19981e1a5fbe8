use Rattle.std.proofs.Common.{length, sym, ◌∙◌}
use Rattle.std.proofs.lemmas.Bool.{eqb-true}
use Rattle.machine_model.specs.Instruction.{store_page_fault}
use Rattle.plain_space.specs.Space.{flat_in}
use Rattle.plain_space.proofs.Flats.{store_of_nothing, none_fails, copy_ok}
use Rattle.plain_space.proofs.pages.Pages.write_from.Goals as goal

pub returns-then-is_empty-clause-stored : goal.returns-then-is_empty-clause-stored
returns-then-is_empty-clause-stored c =
    store_of_nothing (flat_in c.args.self.now) c.args.at c.args.bytes.now
    (eqb-true _ _ (sym c.is_empty.ensures ∙ c.if-is_empty.true))

pub returns-then-is_empty-clause-ends : goal.returns-then-is_empty-clause-ends
returns-then-is_empty-clause-ends c =
    copy_ok store_page_fault _ tt (none_fails _ c.args.at (length c.args.bytes.now)
    (eqb-true _ _ (sym c.is_empty.ensures ∙ c.if-is_empty.true)))
