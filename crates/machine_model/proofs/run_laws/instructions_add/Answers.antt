use Rattle.machine_model.proofs.Runs as runs
use Rattle.machine_model.proofs.run_laws.instructions_add.Goals as goal

pub returns-clause-joined : goal.returns-clause-joined
returns-clause-joined c = runs.after_add

pub returns-clause-parted : goal.returns-clause-parted
returns-clause-parted c = runs.after_split
