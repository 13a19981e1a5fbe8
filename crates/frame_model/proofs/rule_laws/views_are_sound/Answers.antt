use Rattle.frame_model.proofs.Rules.{sound}
use Rattle.frame_model.proofs.rule_laws.views_are_sound.Goals as goal

pub returns : goal.returns
returns c = sound
