use Rattle.std.proofs.Common.{refl, arith}
use Rattle.counted_store.proofs.Spaces.{sound-from}
use Rattle.counted_store.proofs.space.StakedSpaceSpace.read_into.Goals as goal

pub invariant_of-self : goal.invariant_of-self
invariant_of-self g c =
    record {
      sound = sound-from c.args.self.now.counted _ c.args.self.now.sound (omega arith)
          c.read_into.ensures.flat refl;
      spanned = c.args.self.now.spanned;
    }
