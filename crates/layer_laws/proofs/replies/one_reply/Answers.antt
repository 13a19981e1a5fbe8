use Rattle.layer_laws.proofs.Determined as determined
use Rattle.layer_laws.proofs.replies.one_reply.Goals as goal

pub returns : goal.returns
returns c = determined.one_reply
