use Rattle.reply_lines.proofs.Lines.{one_reply}
use Rattle.reply_lines.proofs.laws.lines_have_one_reply.Goals as goal

pub returns : goal.returns
returns c = one_reply
