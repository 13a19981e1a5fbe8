use Rattle.counted_space.specs.Marks.{is_marked}
use Rattle.counted_space.proofs.Lists.{need-of_row}
use Rattle.counted_store.proofs.counted.Counted.need.Goals as goal

pub returns : goal.returns
returns c =
    need-of_row (is_marked c.args.self.now.pages.items) c.args.at c.args.size c.row_need.result
    c.requires.some c.ends_below.ensures (rw c.deref.ensures.value at c.row_need.ensures)
