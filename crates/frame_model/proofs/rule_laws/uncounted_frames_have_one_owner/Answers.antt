use Rattle.frame_model.proofs.Owners.{one_owner}
use Rattle.frame_model.proofs.rule_laws.uncounted_frames_have_one_owner.Goals as goal

pub returns-clause-some : goal.returns-clause-some
returns-clause-some c = λ n m views rule. rule.owned.loose

pub returns-clause-one : goal.returns-clause-one
returns-clause-one c = one_owner
