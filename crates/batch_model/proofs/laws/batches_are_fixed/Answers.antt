use Rattle.batch_model.proofs.Fixed.{one_line, one_count}
use Rattle.batch_model.proofs.laws.batches_are_fixed.Goals as goal

pub returns-clause-line : goal.returns-clause-line
returns-clause-line c = one_line

pub returns-clause-pages : goal.returns-clause-pages
returns-clause-pages c = one_count
