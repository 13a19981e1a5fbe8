use Rattle.journal_model.specs.Names.{names_request, names_context}
use Rattle.journal_model.specs.State.{State, numbered}
use Rattle.journal_laws.proofs.Naming.{kept_by_all, request_stays, context_stays}
use Rattle.journal_laws.proofs.names.events_leave_what_they_do_not_name.Goals as goal

pub returns-clause-request : goal.returns-clause-request
returns-clause-request c = λ sizes s events t i h n.
    kept_by_all (λ (x : State). numbered x.requests i) (names_request i) sizes s events t
    (λ x e y k m. request_stays sizes x e y i k m) h n

pub returns-clause-context : goal.returns-clause-context
returns-clause-context c = λ sizes s events t d h n.
    kept_by_all (λ (x : State). numbered x.contexts d) (names_context d) sizes s events t
    (λ x e y k m. context_stays sizes x e y d k m) h n
