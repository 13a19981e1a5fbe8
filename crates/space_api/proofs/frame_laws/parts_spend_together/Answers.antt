use Rattle.space_api.proofs.Frames.{spent_join}
use Rattle.space_api.proofs.frame_laws.parts_spend_together.Goals as goal

pub returns : goal.returns
returns c = spent_join
