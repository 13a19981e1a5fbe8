use Rattle.batch_laws.proofs.Starts.{next_may, opened_so_far, started_so_far}
use Rattle.batch_laws.proofs.opening.requests_are_started_in_order.Goals as goal

pub returns-clause-opened : goal.returns-clause-opened
returns-clause-opened g c = opened_so_far

pub returns-clause-may : goal.returns-clause-may
returns-clause-may g c = next_may

pub returns-clause-started : goal.returns-clause-started
returns-clause-started g c = started_so_far
