use Rattle.frame_model.proofs.Rules.{sound_closed}
use Rattle.frame_model.proofs.rule_laws.reach_is_closed.Goals as goal

pub returns : goal.returns
returns c = sound_closed
