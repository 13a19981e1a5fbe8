use Rattle.std.proofs.Common.{ap, arith}
use Rattle.counted_space.proofs.Spaces.{sound-from}
use Rattle.counted_space.proofs.space.CountedSpaceSpace.fetch.Goals as goal

pub invariant_of-self : goal.invariant_of-self
invariant_of-self c =
    record {
      sound = sound-from c.args.self.now.counted _ c.args.self.now.sound (omega arith)
          (ap (λ f. f.permissions) c.fetch.ensures.flat) c.fetch.ensures.held.0;
    }
