use Rattle.layer_model_tests.proofs.Replying as replying
use Rattle.layer_model_tests.proofs.worked.requests_miss_a_layer.Goals as goal

pub returns-clause-image : goal.returns-clause-image
returns-clause-image c = replying.missed_reply

pub returns-clause-layer : goal.returns-clause-layer
returns-clause-layer c = replying.missed_above_reply
