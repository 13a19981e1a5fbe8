use Rattle.batch_laws.proofs.Numbered.{line_pushed}
use Rattle.batch_laws.proofs.Right.{batch_is_right, listed}
use Rattle.batch_laws.proofs.ending.lines_make_a_batch.Goals as goal

pub returns-clause-right : goal.returns-clause-right
returns-clause-right g c = batch_is_right

pub returns-clause-pushed : goal.returns-clause-pushed
returns-clause-pushed g c = line_pushed

pub returns-clause-listed : goal.returns-clause-listed
returns-clause-listed g c = listed
