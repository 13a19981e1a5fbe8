use Rattle.asm_lines.proofs.InRange.{range_read}
use Rattle.asm_lines.proofs.line.read_statement.Goals as goal

pub returns-clause-range : goal.returns-clause-range
returns-clause-range c =
    range_read c.args.inside c.content.result.now c.meaning.result c.meaning.ensures
