use Rattle.std.proofs.Common.{arith}
use Rattle.counted_space.specs.Marks.{is_marked}
use Rattle.counted_space.proofs.Lists.{need-next}
use Rattle.counted_store.proofs.marks.row_need.Goals as goal

pub loop-page-preserved : goal.loop-page-preserved
loop-page-preserved c = record {
  need = need-next (is_marked c.args.pages.now) c.args.first c.loop-page.page c.loop-page.need
      c.page_need-need.result (omega arith) (omega arith) c.loop-page.invariant.need
      c.page_need-need.ensures.need;
  few = omega arith;
}
