use Rattle.std.proofs.Common.{Some, sym, ap, ◌∙◌}
use Rattle.elf64.proofs.Table.{no_memory}
use Rattle.elf64.proofs.read.check_image.Goals as goal

pub invariant_of-result : goal.invariant_of-result
invariant_of-result c = record {
  named = λ e. no_memory c.args.bytes.now (sym c.in-Err.ensures.fault ∙ ap Some e);
}
