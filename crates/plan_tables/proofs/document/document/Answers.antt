use Rattle.std.proofs.Common.{rules}
use Rattle.plan_tables.proofs.Documents.{document_read, document_refused}
use Rattle.plan_tables.proofs.document.document.Goals as goal

pub returns-in-Ok-clause-table : goal.returns-in-Ok-clause-table
returns-in-Ok-clause-table c =
    document_read c.args.bytes.now _ c.if-bytes-gt-LARGEST_TEXT.false c.in-Ok.ensures.ok.0
    c.in-Ok.ensures.ok.1

pub returns-else-is_memory-clause-toml : goal.returns-else-is_memory-clause-toml
returns-else-is_memory-clause-toml c = λ toml.
    document_refused c.args.bytes.now c.if-bytes-gt-LARGEST_TEXT.false
    (c.in-Err.ensures.refused (search rules))
