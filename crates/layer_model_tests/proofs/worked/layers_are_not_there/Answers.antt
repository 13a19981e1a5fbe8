use Rattle.layer_model_tests.proofs.Layering as layering
use Rattle.layer_model_tests.proofs.worked.layers_are_not_there.Goals as goal

pub returns-clause-rests : goal.returns-clause-rests
returns-clause-rests c = layering.resting_none

pub returns-clause-spins : goal.returns-clause-spins
returns-clause-spins c = layering.spinning_none

pub returns-clause-halts : goal.returns-clause-halts
returns-clause-halts c = layering.halting_none

pub returns-clause-breaks : goal.returns-clause-breaks
returns-clause-breaks c = layering.breaking_none

pub returns-clause-clock : goal.returns-clause-clock
returns-clause-clock c = layering.clocked_none
