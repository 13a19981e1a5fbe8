use Rattle.frame_views.proofs.NewParts.{pile_kept, pile_given}
use Rattle.frame_views.proofs.parts.piles_go_alone.Goals as goal

pub returns-clause-kept : goal.returns-clause-kept
returns-clause-kept c = pile_kept

pub returns-clause-given : goal.returns-clause-given
returns-clause-given c = pile_given
