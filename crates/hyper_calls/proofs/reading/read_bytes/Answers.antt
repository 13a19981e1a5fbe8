use Rattle.std.proofs.Common.{rules, Err, ap, ◌∙◌}
use Rattle.space_api.specs.Flat.{is_readable}
use Rattle.hyper_calls.proofs.Ranges.{read_done, read_refused}
use Rattle.hyper_calls.proofs.reading.read_bytes.Goals as goal

pub returns-in-Ok-clause-reads : goal.returns-in-Ok-clause-reads
returns-in-Ok-clause-reads g c = (
  read_done (is_readable (g.S.Space.flat c.args.space.now)) _ _ _ _ _ c.in-Ok.is c.read_into.ensures.ends,
  search rules,
)

pub returns-in-Err-Fault-clause-reads : goal.returns-in-Err-Fault-clause-reads
returns-in-Err-Fault-clause-reads g c = (
  read_refused (is_readable (g.S.Space.flat c.args.space.now)) _ _ _ _ _ _
      (c.in-Err-Fault.is ∙ ap Err c.in-Err-Fault.field-0-is) c.read_into.ensures.ends,
  tt,
)
