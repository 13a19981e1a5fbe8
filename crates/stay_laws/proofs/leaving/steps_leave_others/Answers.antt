use Rattle.stay_laws.proofs.Leaves.{nothing_leaves, joined_leave, started_leaves, taken_leaves}
use Rattle.stay_laws.proofs.Leaves.{deployed_leaves, built_leaves, parked_leaves, ended_leaves}
use Rattle.stay_laws.proofs.Leaves.{wanted_leaves}
use Rattle.stay_laws.proofs.leaving.steps_leave_others.Goals as goal

pub returns-clause-nothing : goal.returns-clause-nothing
returns-clause-nothing c = nothing_leaves

pub returns-clause-joined : goal.returns-clause-joined
returns-clause-joined c = joined_leave

pub returns-clause-started : goal.returns-clause-started
returns-clause-started c = started_leaves

pub returns-clause-taken : goal.returns-clause-taken
returns-clause-taken c = taken_leaves

pub returns-clause-deployed : goal.returns-clause-deployed
returns-clause-deployed c = deployed_leaves

pub returns-clause-built : goal.returns-clause-built
returns-clause-built c = built_leaves

pub returns-clause-parked : goal.returns-clause-parked
returns-clause-parked c = parked_leaves

pub returns-clause-ended : goal.returns-clause-ended
returns-clause-ended c = ended_leaves

pub returns-clause-wanted : goal.returns-clause-wanted
returns-clause-wanted c = wanted_leaves
