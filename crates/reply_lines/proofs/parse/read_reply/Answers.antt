use Rattle.reply_lines.proofs.Lines.{tells}
use Rattle.reply_lines.proofs.parse.read_reply.Goals as goal

-- the line is read as it is spelled
pub returns : goal.returns
returns c = tells c.args.line.now c.read_line.result c.read_line.ensures
