use Rattle.frame_views.proofs.Joined.{joined_own, joined_other}
use Rattle.frame_laws.proofs.laws.joined_views_know_what_was_known.Goals as goal

pub returns-clause-own : goal.returns-clause-own
returns-clause-own c = λ v w g h. (joined_own v w g h).1

pub returns-clause-other : goal.returns-clause-other
returns-clause-other c = λ v w g away h. (joined_other v w g away h).1
