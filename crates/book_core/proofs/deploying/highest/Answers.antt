use Rattle.std.proofs.Common.{ap, ◌∙◌, arith}
use Rattle.std.specs.Map.{keys_of}
use Rattle.std.proofs.Math.Seq.{drop-length}
use Rattle.journal_model.specs.State.{highest_kept}
use Rattle.book_model.proofs.Highest.{highest_found, highest_below, highest_none}
use Rattle.book_core.proofs.deploying.highest.Goals as goal

pub loop-left-init : goal.loop-left-init
loop-left-init g c = record {
  within = omega arith;
  none_above = ap (highest_kept (keys_of c.args.kept.now.entries)) (drop-length c.args.stack.now)
      ∙ highest_none (keys_of c.args.kept.now.entries);
}

pub returns-then-has : goal.returns-then-has
returns-then-has g c = highest_found c.args.kept.now.entries c.args.stack.now c.loop-left.left
    c.has.result (omega (arith, c.loop-left-test.true)) c.loop-left.invariant.within
    c.loop-left.invariant.none_above c.has.ensures c.if-has.true

pub loop-left-preserved : goal.loop-left-preserved
loop-left-preserved g c = record {
  within = let w = c.loop-left.invariant.within in omega (arith, w);
  none_above = highest_below c.args.kept.now.entries c.args.stack.now c.loop-left.left
      c.has.result (omega (arith, c.loop-left-test.true)) c.loop-left.invariant.within
      c.loop-left.invariant.none_above c.has.ensures c.if-has.false;
}
