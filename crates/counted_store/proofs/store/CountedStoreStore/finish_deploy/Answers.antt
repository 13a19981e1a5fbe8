use Rattle.std.proofs.Common.{refl, arith}
use Rattle.counted_store.proofs.Spaces.{sound-from}
use Rattle.counted_store.proofs.store.CountedStoreStore.finish_deploy.Goals as goal

pub invariant_of-space : goal.invariant_of-space
invariant_of-space g c =
    record {
      sound = sound-from c.args.space.now.counted _ c.args.space.now.sound (omega arith)
          c.finish_plain.ensures.flat refl;
      spanned = c.args.space.now.spanned;
    }
