use Rattle.layer_laws.proofs.Validity as validity
use Rattle.layer_laws.proofs.contexts.contexts_are_valid.Goals as goal

pub returns : goal.returns
returns c = validity.context-valid
