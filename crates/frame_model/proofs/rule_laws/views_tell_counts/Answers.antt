use Rattle.frame_model.proofs.NameCounts.{count_least, own_count}
use Rattle.frame_model.proofs.rule_laws.views_tell_counts.Goals as goal

pub returns-clause-least : goal.returns-clause-least
returns-clause-least c = count_least

pub returns-clause-own : goal.returns-clause-own
returns-clause-own c = own_count
