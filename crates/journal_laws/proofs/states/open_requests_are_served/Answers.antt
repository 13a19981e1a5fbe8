use Rattle.journal_laws.proofs.Serving.{served_so, given_so, earlier_so}
use Rattle.journal_laws.proofs.states.open_requests_are_served.Goals as goal

pub returns-clause-served : goal.returns-clause-served
returns-clause-served c = λ sizes events s i d h o.
    (λ g. served_so sizes events s i d h o g, λ v. given_so sizes events s i d h v)

pub returns-clause-earlier : goal.returns-clause-earlier
returns-clause-earlier c = earlier_so
