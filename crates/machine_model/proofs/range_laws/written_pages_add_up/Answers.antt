use Rattle.machine_model.proofs.Ranges as ranges
use Rattle.machine_model.proofs.range_laws.written_pages_add_up.Goals as goal

pub returns-clause-none : goal.returns-clause-none
returns-clause-none c = ranges.with_written-none

pub returns-clause-more : goal.returns-clause-more
returns-clause-more c = ranges.written-more
