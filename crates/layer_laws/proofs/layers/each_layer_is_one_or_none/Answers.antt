use Rattle.layer_laws.proofs.Determined as determined
use Rattle.layer_laws.proofs.Standing as standing
use Rattle.layer_laws.proofs.layers.each_layer_is_one_or_none.Goals as goal

pub returns-clause-one : goal.returns-clause-one
returns-clause-one c = determined.one_layer

pub returns-clause-reason : goal.returns-clause-reason
returns-clause-reason c = determined.one_why

pub returns-clause-not_both : goal.returns-clause-not_both
returns-clause-not_both c = standing.not_both
