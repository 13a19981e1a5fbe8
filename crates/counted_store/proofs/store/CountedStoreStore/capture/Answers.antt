use Rattle.std.proofs.Common.{refl, arith}
use Rattle.plain_space.specs.PlainSpace as plain
use Rattle.counted_store.proofs.Spaces.{below-frozen, sound-from, sound-new}
use Rattle.counted_store.proofs.store.CountedStoreStore.capture.Goals as goal

pub invariant_of-result : goal.invariant_of-result
invariant_of-result g c =
    record {
      below = below-frozen (plain.flat c.args.space.counted.plain) _ c.args.space.sound.below
          c.in-Done.ensures.kept_is;
    }

pub invariant_of-result-in-Done : goal.invariant_of-result-in-Done
invariant_of-result-in-Done g c =
    record {
      sound = sound-new _ (plain.flat c.args.space.counted.plain)
          (omega (arith, c.args.space.sound.few)) c.in-Done.ensures.flat_is
          c.args.space.sound.below c.new.ensures.items;
      spanned = omega (arith, c.args.space.spanned, c.split-share.ensures.span);
    }

pub invariant_of-result-in-Memory : goal.invariant_of-result-in-Memory
invariant_of-result-in-Memory g c =
    record {
      sound = sound-from c.args.space.counted _ c.args.space.sound (omega arith)
          c.in-Memory.ensures.flat_is refl;
      spanned = c.args.space.spanned;
    }
