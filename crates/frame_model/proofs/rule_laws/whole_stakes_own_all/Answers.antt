use Rattle.frame_model.proofs.Covers.{whole_owns}
use Rattle.frame_model.proofs.rule_laws.whole_stakes_own_all.Goals as goal

pub returns : goal.returns
returns c = whole_owns
