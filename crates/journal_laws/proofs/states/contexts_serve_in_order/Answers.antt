use Rattle.journal_laws.proofs.Serving.{each_answer, no_answer, grows}
use Rattle.journal_laws.proofs.states.contexts_serve_in_order.Goals as goal

pub returns-clause-each : goal.returns-clause-each
returns-clause-each c = each_answer

pub returns-clause-none : goal.returns-clause-none
returns-clause-none c = no_answer

pub returns-clause-grows : goal.returns-clause-grows
returns-clause-grows c = grows
