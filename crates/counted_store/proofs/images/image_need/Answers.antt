use Rattle.std.proofs.Common.{sym, ap, ◌∙◌, arith, ◌+◌}
use Rattle.counted_store.proofs.ImageFrames.{page-below, frames-none, frames-next, frames-all}
use Rattle.counted_store.proofs.images.image_need.Goals as goal

pub loop-i-init : goal.loop-i-init
loop-i-init c = record { need = frames-none; few = omega arith }

pub page_need-requires-clause-below : goal.page_need-requires-clause-below
page_need-requires-clause-below c =
    page-below 0 c.args.pages.now c.loop-i.i c.index-pages-i.result c.requires
    c.loop-i-test.true

pub loop-i-preserved : goal.loop-i-preserved
loop-i-preserved c = record {
  need = frames-next c.args.pages.now c.loop-i.i c.loop-i.need c.from-need.result
      c.index-pages-i.result c.loop-i-test.true
      (page-below 0 c.args.pages.now c.loop-i.i c.index-pages-i.result c.requires
      c.loop-i-test.true) c.loop-i.invariant.need
      (c.from-need.ensures ∙ c.page_need.ensures.need);
  few = omega arith;
}

pub returns : goal.returns
returns c =
    frames-all c.args.pages.now c.loop-i.i c.loop-i.need (omega arith)
    c.loop-i.invariant.need
