use Rattle.layer_laws.proofs.Answering as answering
use Rattle.layer_laws.proofs.replies.replies_are_exact.Goals as goal

pub returns-clause-at_layer : goal.returns-clause-at_layer
returns-clause-at_layer c = answering.reply_at_layer

pub returns-clause-below : goal.returns-clause-below
returns-clause-below c = answering.reply_below
