use Rattle.frame_views.proofs.NewParts.{more_loose}
use Rattle.frame_views.proofs.Giving.{shared_gained, fresh_gained, named_gained}
use Rattle.frame_views.proofs.parts.gains_give_up_trees.Goals as goal

pub returns-clause-shared : goal.returns-clause-shared
returns-clause-shared c = shared_gained

pub returns-clause-fresh : goal.returns-clause-fresh
returns-clause-fresh c = fresh_gained

pub returns-clause-named : goal.returns-clause-named
returns-clause-named c = named_gained

pub returns-clause-loose : goal.returns-clause-loose
returns-clause-loose c = more_loose
