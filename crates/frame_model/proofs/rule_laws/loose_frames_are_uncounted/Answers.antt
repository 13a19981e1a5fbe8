use Rattle.frame_model.proofs.Owners.{loose_count}
use Rattle.frame_model.proofs.rule_laws.loose_frames_are_uncounted.Goals as goal

pub returns : goal.returns
returns c = loose_count
