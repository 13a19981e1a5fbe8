use Rattle.event_text.proofs.Lines.{one_event}
use Rattle.event_text.proofs.laws.lines_have_one_event.Goals as goal

pub returns : goal.returns
returns c = one_event
