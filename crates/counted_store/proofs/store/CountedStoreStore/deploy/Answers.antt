use Rattle.std.proofs.Common.{arith}
use Rattle.plain_space.specs.PlainFrozen as memory
use Rattle.counted_store.proofs.Spaces.{below-same, sound-new}
use Rattle.counted_store.proofs.store.CountedStoreStore.deploy.Goals as goal

pub invariant_of-below : goal.invariant_of-below
invariant_of-below g c =
    record {
      below = below-same (memory.flat c.args.below.now.plain) _ c.args.below.now.below
          c.deploy_plain.ensures.kept;
    }

pub invariant_of-result : goal.invariant_of-result
invariant_of-result g c =
    record {
      sound = sound-new _ (memory.flat c.args.below.now.plain) (omega arith)
          c.in-Ok.ensures.flat c.args.below.now.below c.new.ensures.items;
      spanned = omega arith;
    }
