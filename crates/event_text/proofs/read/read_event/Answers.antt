use Rattle.event_text.proofs.Lines.{tells}
use Rattle.event_text.proofs.read.read_event.Goals as goal

-- the line is read as it is spelled
pub returns : goal.returns
returns c = tells c.args.line.now c.read_line.result c.read_line.ensures
