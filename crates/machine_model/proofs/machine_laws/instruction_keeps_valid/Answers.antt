use Rattle.machine_model.proofs.Instructions as instructions
use Rattle.machine_model.proofs.machine_laws.instruction_keeps_valid.Goals as goal

pub returns : goal.returns
returns c = instructions.instruction_keeps
