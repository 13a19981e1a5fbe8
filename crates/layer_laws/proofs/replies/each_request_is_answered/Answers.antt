use Rattle.layer_laws.proofs.Answering as answering
use Rattle.layer_laws.proofs.replies.each_request_is_answered.Goals as goal

pub returns : goal.returns
returns c = answering.reply_there
