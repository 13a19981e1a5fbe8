use Rattle.frame_views.proofs.Joined.{joined_own, joined_other, joined_reach}
use Rattle.frame_views.proofs.parts.joins_keep_what_was_known.Goals as goal

pub returns-clause-own : goal.returns-clause-own
returns-clause-own c = joined_own

pub returns-clause-other : goal.returns-clause-other
returns-clause-other c = joined_other

pub returns-clause-reach : goal.returns-clause-reach
returns-clause-reach c = joined_reach
