use Rattle.stay_laws.proofs.Settled.{settled_first, settled_started, settled_taken}
use Rattle.stay_laws.proofs.Settled.{settled_deployed, settled_built, settled_parked}
use Rattle.stay_laws.proofs.Settled.{settled_over, settled_wanted, settled_unserved}
use Rattle.stay_laws.proofs.settling.services_stay_settled.Goals as goal

pub returns-clause-first : goal.returns-clause-first
returns-clause-first c = settled_first

pub returns-clause-started : goal.returns-clause-started
returns-clause-started c = settled_started

pub returns-clause-taken : goal.returns-clause-taken
returns-clause-taken c = settled_taken

pub returns-clause-deployed : goal.returns-clause-deployed
returns-clause-deployed c = settled_deployed

pub returns-clause-built : goal.returns-clause-built
returns-clause-built c = settled_built

pub returns-clause-parked : goal.returns-clause-parked
returns-clause-parked c = settled_parked

pub returns-clause-over : goal.returns-clause-over
returns-clause-over c = settled_over

pub returns-clause-wanted : goal.returns-clause-wanted
returns-clause-wanted c = settled_wanted

pub returns-clause-unserved : goal.returns-clause-unserved
returns-clause-unserved c = settled_unserved
