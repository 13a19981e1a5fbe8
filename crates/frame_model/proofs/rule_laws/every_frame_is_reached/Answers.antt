use Rattle.frame_model.proofs.Covers.{some_reacher}
use Rattle.frame_model.proofs.rule_laws.every_frame_is_reached.Goals as goal

pub returns : goal.returns
returns c = some_reacher
