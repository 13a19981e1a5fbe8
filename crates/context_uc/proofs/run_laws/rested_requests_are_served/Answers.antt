use Rattle.context_uc.proofs.Runs.{rested_known, rested_at_once}
use Rattle.context_uc.proofs.run_laws.rested_requests_are_served.Goals as goal

pub returns-clause-known : goal.returns-clause-known
returns-clause-known g c = rested_known

pub returns-clause-at_once : goal.returns-clause-at_once
returns-clause-at_once g c = rested_at_once
