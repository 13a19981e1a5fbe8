use Rattle.machine_run.proofs.Continued.{finishes-runs}
use Rattle.machine_run.proofs.Waking.{cut_run, whole_run}
use Rattle.machine_run.proofs.part_laws.parts_are_the_run.Goals as goal

pub returns-clause-finished : goal.returns-clause-finished
returns-clause-finished c = finishes-runs

pub returns-clause-cut : goal.returns-clause-cut
returns-clause-cut c = cut_run

pub returns-clause-whole : goal.returns-clause-whole
returns-clause-whole c = whole_run
