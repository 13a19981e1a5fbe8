use Rattle.context_uc.proofs.Runs.{reached_known, reached_at_once}
use Rattle.context_uc.proofs.run_laws.reached_layers_are_captured.Goals as goal

pub returns-clause-known : goal.returns-clause-known
returns-clause-known g c = reached_known

pub returns-clause-at_once : goal.returns-clause-at_once
returns-clause-at_once g c = reached_at_once
