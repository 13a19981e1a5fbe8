use Rattle.layer_laws.proofs.Determined as determined
use Rattle.layer_laws.proofs.contexts.one_context.Goals as goal

pub returns : goal.returns
returns c = determined.one_context
