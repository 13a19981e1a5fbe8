use Rattle.machine_model.proofs.Start as start
use Rattle.machine_model.proofs.machine_laws.loaded_is_valid.Goals as goal

pub returns : goal.returns
returns c = start.loaded-valid
