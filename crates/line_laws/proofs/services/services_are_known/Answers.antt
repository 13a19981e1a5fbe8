use Rattle.line_laws.proofs.Known.{serving_is_known, taken_is_known, deployed_is_known}
use Rattle.line_laws.proofs.Known.{started_is_known}
use Rattle.line_laws.proofs.services.services_are_known.Goals as goal

pub returns-clause-known : goal.returns-clause-known
returns-clause-known c = serving_is_known

pub returns-clause-taken : goal.returns-clause-taken
returns-clause-taken c = taken_is_known

pub returns-clause-deployed : goal.returns-clause-deployed
returns-clause-deployed c = deployed_is_known

pub returns-clause-started : goal.returns-clause-started
returns-clause-started c = started_is_known
