use Rattle.counted_store.proofs.Spaces.{start-is-below}
use Rattle.counted_store.proofs.frozen.CountedFrozen.open.Goals as goal

pub invariant_of-result : goal.invariant_of-result
invariant_of-result g c =
    record {
      below = start-is-below _ c.args.start.now c.keeps_layout.ensures c.in-Ok.ensures;
    }
