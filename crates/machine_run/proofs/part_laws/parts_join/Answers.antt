use Rattle.machine_run.proofs.Continued.{continues-join}
use Rattle.machine_run.proofs.Waking as waking
use Rattle.machine_run.proofs.part_laws.parts_join.Goals as goal

pub returns-clause-continued : goal.returns-clause-continued
returns-clause-continued c = continues-join

pub returns-clause-ended : goal.returns-clause-ended
returns-clause-ended c = waking.goes_on
