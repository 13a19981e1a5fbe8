use Rattle.machine_model.proofs.Ends as ends
use Rattle.machine_model.proofs.run_laws.each_run_ends.Goals as goal

pub returns : goal.returns
returns c = ends.each_ends
