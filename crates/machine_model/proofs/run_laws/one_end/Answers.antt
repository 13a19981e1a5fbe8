use Rattle.machine_model.proofs.Runs as runs
use Rattle.machine_model.proofs.run_laws.one_end.Goals as goal

pub returns : goal.returns
returns c = runs.one_end
