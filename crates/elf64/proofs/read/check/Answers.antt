use Rattle.std.proofs.Common.{sym, ◌∙◌}
use Rattle.std.proofs.lemmas.Result.{err_from_is_err_and}
use Rattle.elf64.specs.Elf.{header_checks, file_checks}
use Rattle.elf64.proofs.Table.{found_first, found_later}
use Rattle.elf64.proofs.read.check.Goals as goal

pub returns-in_err-check_file_header-clause-fault :
    goal.returns-in_err-check_file_header-clause-fault
returns-in_err-check_file_header-clause-fault c =
    let p = err_from_is_err_and c.from_residual.result c.from_residual.ensures.1 in
    rw (p.1, p.2) (sym (found_first (file_checks c.args.bytes.now) _ _
    (sym c.in_err-check_file_header.ensures.fault)))

pub returns-in_err-loads-clause-fault : goal.returns-in_err-loads-clause-fault
returns-in_err-loads-clause-fault c =
    let p = err_from_is_err_and c.from_residual-in_err-loads.result
    c.from_residual-in_err-loads.ensures.1 in
    rw (p.1, p.2) (sym (found_later (file_checks c.args.bytes.now) _
    (sym c.in_ok-check_file_header.ensures.fault)
    ∙ found_first (header_checks c.args.bytes.now) _ _ (sym c.in_err-loads.ensures.fault)))

pub returns-in_err-check_loads-clause-fault :
    goal.returns-in_err-check_loads-clause-fault
returns-in_err-check_loads-clause-fault c =
    let p = err_from_is_err_and c.from_residual-in_err-check_loads.result
    c.from_residual-in_err-check_loads.ensures.1 in
    rw (p.1, p.2) (sym (found_later (file_checks c.args.bytes.now) _
    (sym c.in_ok-check_file_header.ensures.fault)
    ∙ found_later (header_checks c.args.bytes.now) _ (sym c.in_ok-loads.ensures.fault)
    ∙ sym c.in_err-check_loads.ensures.fault))

pub returns-clause-fault : goal.returns-clause-fault
returns-clause-fault c = sym (found_later (file_checks c.args.bytes.now) _
    (sym c.in_ok-check_file_header.ensures.fault)
    ∙ found_later (header_checks c.args.bytes.now) _ (sym c.in_ok-loads.ensures.fault)
    ∙ sym c.in_ok-check_loads.ensures.fault)
