use Rattle.frame_model.proofs.Opening.{opening_rule}
use Rattle.frame_model.proofs.rule_laws.new_tables_meet_the_rule.Goals as goal

pub returns : goal.returns
returns c = opening_rule
