use Rattle.std.proofs.Common.{◌∙◌, sym, ap}
use Rattle.std.proofs.lemmas.Result.{err_from_is_err_and}
use Rattle.std.specs.Result.{result_err}
use Rattle.elf64.specs.Elf.{image_of, image_unless}
use Rattle.elf64.proofs.Table.{no_memory}
use Rattle.elf64.proofs.read.read_image.Goals as goal

pub returns-in_err-loads-clause-fault : goal.returns-in_err-loads-clause-fault
returns-in_err-loads-clause-fault c =
    let p = err_from_is_err_and c.from_residual.result c.from_residual.ensures.1 in
    rw (p.1, p.2) (λ _. ap (λ o. image_unless o (image_of c.args.bytes.now))
    (sym c.in_err-loads.ensures.fault))

pub returns-in_err-loads-clause-memory : goal.returns-in_err-loads-clause-memory
returns-in_err-loads-clause-memory c =
    let p = err_from_is_err_and c.from_residual.result c.from_residual.ensures.1 in
    rw (p.1, p.2) (λ e. absurd
    (no_memory c.args.bytes.now (sym c.in_err-loads.ensures.fault ∙ ap result_err e)))
