use Rattle.batch_model.proofs.Appending.{line_stays}
use Rattle.line_laws.proofs.staying.lines_stay.Goals as goal

pub returns : goal.returns
returns c = line_stays
