use Rattle.journal_laws.proofs.Serving.{listed_idle, idle_listed, idle_rested}
use Rattle.journal_laws.proofs.states.idle_contexts_are_listed.Goals as goal

pub returns-clause-listed : goal.returns-clause-listed
returns-clause-listed c = λ sizes events s d h. (
  λ l. listed_idle sizes events s d h l,
  λ p. idle_listed sizes events s d p.0 h p.1 p.2,
)

pub returns-clause-rested : goal.returns-clause-rested
returns-clause-rested c = idle_rested
