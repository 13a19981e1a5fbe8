use Rattle.std.proofs.Common.{Some}
use Rattle.std.proofs.lemmas.Result.{err_from_is_err_and}
use Rattle.toml.specs.View.{table_view}
use Rattle.plan_tables.proofs.NoFile.{of_document, not_file}
use Rattle.plan_tables.proofs.Told.{refused_text}
use Rattle.plan_tables.specs.Tables.{document}
use Rattle.plan_tables.proofs.tables.read_tables.Goals as goal

pub returns-in_err-table-clause-fault : goal.returns-in_err-table-clause-fault
returns-in_err-table-clause-fault c =
    let p = err_from_is_err_and c.from_residual.result c.from_residual.ensures.1 in
    rw (p.1, p.2) (λ named. refused_text (document c.args.bytes.now) _
    (c.in_err-table.ensures.others named) c.in_err-table.ensures.toml)

pub returns-in_err-table-clause-no_file : goal.returns-in_err-table-clause-no_file
returns-in_err-table-clause-no_file c =
    let p = err_from_is_err_and c.from_residual.result c.from_residual.ensures.1 in
    rw (p.1, p.2) (not_file _ c.in_err-table.ensures.others)

pub returns-clause-no_file : goal.returns-clause-no_file
returns-clause-no_file c = λ e.
    of_document (Some (table_view c.in_ok-table.table))
    ((rw e at c.tables_of.ensures.fault) (λ clash. cc))
