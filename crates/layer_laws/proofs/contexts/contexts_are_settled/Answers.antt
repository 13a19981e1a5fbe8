use Rattle.layer_laws.proofs.Answering as answering
use Rattle.layer_laws.proofs.contexts.contexts_are_settled.Goals as goal

pub returns : goal.returns
returns c = answering.context_settled
