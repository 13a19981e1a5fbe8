use Rattle.layer_laws.proofs.Answering as answering
use Rattle.layer_laws.proofs.contexts.contexts_serve_one_by_one.Goals as goal

pub returns-clause-none : goal.returns-clause-none
returns-clause-none c = answering.new_context

pub returns-clause-more : goal.returns-clause-more
returns-clause-more c = answering.used_context
