use Rattle.space_laws.proofs.Rows.{row-none, row-more, write-row}
use Rattle.space_laws.proofs.laws.write_adds_row.Goals as goal

pub returns-clause-none : goal.returns-clause-none
returns-clause-none c = row-none

pub returns-clause-more : goal.returns-clause-more
returns-clause-more c = row-more

pub returns-clause-write : goal.returns-clause-write
returns-clause-write c = write-row
