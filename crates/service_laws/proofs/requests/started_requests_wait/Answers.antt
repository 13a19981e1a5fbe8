use Rattle.service_laws.proofs.Starting.{started_waits, next_starts}
use Rattle.service_laws.proofs.requests.started_requests_wait.Goals as goal

pub returns-clause-waits : goal.returns-clause-waits
returns-clause-waits c = started_waits

pub returns-clause-next : goal.returns-clause-next
returns-clause-next c = next_starts
