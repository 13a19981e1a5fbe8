use Rattle.std.proofs.Common.{length, sym, ◌∙◌}
use Rattle.std.proofs.lemmas.Bool.{eqb-true}
use Rattle.machine_model.specs.Instruction.{store_page_fault}
use Rattle.plain_space.proofs.Flats.{store_of_nothing, none_fails}
use Rattle.counted_store.specs.Counted.{flat_in}
use Rattle.counted_space.specs.Marks.{is_marked}
use Rattle.counted_space.proofs.Spaces.{ends-empty, need-empty, not-wanted, nothing-spent}
use Rattle.counted_space.proofs.Spaces.{write-spent}
use Rattle.counted_store.proofs.counted.Counted.put.Goals as goal

pub returns-then-is_empty-clause-stored : goal.returns-then-is_empty-clause-stored
returns-then-is_empty-clause-stored c =
    store_of_nothing (flat_in c.args.self.now) c.args.at c.args.bytes.now
    (eqb-true _ _ (sym c.is_empty.ensures ∙ c.if-is_empty.true))

pub returns-then-is_empty-clause-ends : goal.returns-then-is_empty-clause-ends
returns-then-is_empty-clause-ends c =
    ends-empty _ store_page_fault _ tt (none_fails _ c.args.at (length c.args.bytes.now)
    (eqb-true _ _ (sym c.is_empty.ensures ∙ c.if-is_empty.true)))

pub returns-then-is_empty-clause-need : goal.returns-then-is_empty-clause-need
returns-then-is_empty-clause-need c =
    not-wanted tt _ c.args.self.now.spares _
    (need-empty (is_marked c.args.self.now.pages.items) c.args.at (length c.args.bytes.now)
    (eqb-true _ _ (sym c.is_empty.ensures ∙ c.if-is_empty.true)))

pub returns-then-is_empty-clause-spent : goal.returns-then-is_empty-clause-spent
returns-then-is_empty-clause-spent c =
    nothing-spent c.args.self.now.spares _
    (need-empty (is_marked c.args.self.now.pages.items) c.args.at (length c.args.bytes.now)
    (eqb-true _ _ (sym c.is_empty.ensures ∙ c.if-is_empty.true)))

pub returns-clause-whole : goal.returns-clause-whole
returns-clause-whole c =
    write-spent c.spend.result (flat_in c.args.self.now) (flat_in c.spend.new.self) c.args.at
    c.args.bytes.now c.args.self.now.spares c.spend.new.self.spares c.need-need.result
    c.spend.ensures.stored c.spend.ensures.spent c.spend.ensures.kept c.need-need.ensures
