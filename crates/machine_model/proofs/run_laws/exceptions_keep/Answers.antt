use Rattle.machine_model.proofs.Runs as runs
use Rattle.machine_model.proofs.run_laws.exceptions_keep.Goals as goal

pub returns : goal.returns
returns c = runs.exceptions_keep
