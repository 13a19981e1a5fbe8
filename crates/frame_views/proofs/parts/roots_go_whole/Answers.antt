use Rattle.frame_views.proofs.NewParts.{own_root_kept, own_root_given, other_root_kept}
use Rattle.frame_views.proofs.NewParts.{other_root_given}
use Rattle.frame_views.proofs.parts.roots_go_whole.Goals as goal

pub returns-clause-kept : goal.returns-clause-kept
returns-clause-kept c = own_root_kept

pub returns-clause-given : goal.returns-clause-given
returns-clause-given c = own_root_given

pub returns-clause-left : goal.returns-clause-left
returns-clause-left c = other_root_kept

pub returns-clause-alone : goal.returns-clause-alone
returns-clause-alone c = other_root_given
