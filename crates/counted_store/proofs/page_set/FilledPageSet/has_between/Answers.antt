use Rattle.std.proofs.Common.{◌&&◌, sym, ◌∙◌}
use Rattle.std.specs.Prelude.{nat_le, nat_lt}
use Rattle.counted_store.proofs.ImageFrames.{any-numbers}
use Rattle.counted_store.proofs.page_set.FilledPageSet.has_between.Goals as goal

pub returns : goal.returns
returns c =
    c.any_between.ensures
    ∙ sym (any-numbers (λ p. nat_le c.args.first p && nat_lt p c.args.end) c.args.self.now.list.now)
