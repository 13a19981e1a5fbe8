use Rattle.frame_views.proofs.NewParts.{lost_shared, lost_again, lost_owned, lost_loose}
use Rattle.frame_views.proofs.parts.loses_give_back.Goals as goal

pub returns-clause-shared : goal.returns-clause-shared
returns-clause-shared c = lost_shared

pub returns-clause-again : goal.returns-clause-again
returns-clause-again c = lost_again

pub returns-clause-owned : goal.returns-clause-owned
returns-clause-owned c = lost_owned

pub returns-clause-loose : goal.returns-clause-loose
returns-clause-loose c = lost_loose
