use Rattle.layer_laws.proofs.Climbing as climbing
use Rattle.layer_laws.proofs.layers.stacks_stop_at_one_layer.Goals as goal

pub returns-clause-there_or_not : goal.returns-clause-there_or_not
returns-clause-there_or_not c = climbing.there_or_not

pub returns-clause-not_both : goal.returns-clause-not_both
returns-clause-not_both c = climbing.not_there_too

pub returns-clause-once : goal.returns-clause-once
returns-clause-once c = climbing.one_missing
