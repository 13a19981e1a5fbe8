use Rattle.stay_laws.proofs.Turning.{start_adds, taken_opens, deployed_opens, parked_closes}
use Rattle.stay_laws.proofs.Turning.{ended_closes, wanted_closes, built_leaves, stays_open}
use Rattle.stay_laws.proofs.requests.requests_open_and_close.Goals as goal

pub returns-clause-started : goal.returns-clause-started
returns-clause-started c = start_adds

pub returns-clause-taken : goal.returns-clause-taken
returns-clause-taken c = taken_opens

pub returns-clause-deployed : goal.returns-clause-deployed
returns-clause-deployed c = deployed_opens

pub returns-clause-parked : goal.returns-clause-parked
returns-clause-parked c = parked_closes

pub returns-clause-over : goal.returns-clause-over
returns-clause-over c = ended_closes

pub returns-clause-wanted : goal.returns-clause-wanted
returns-clause-wanted c = wanted_closes

pub returns-clause-built : goal.returns-clause-built
returns-clause-built c = built_leaves

pub returns-clause-stays : goal.returns-clause-stays
returns-clause-stays c = stays_open
