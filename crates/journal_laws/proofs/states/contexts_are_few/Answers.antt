use Rattle.journal_laws.proofs.Serving.{few}
use Rattle.journal_laws.proofs.states.contexts_are_few.Goals as goal

pub returns : goal.returns
returns c = few
