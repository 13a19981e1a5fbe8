use Rattle.frame_views.proofs.Giving.{shared_gained}
use Rattle.frame_laws.proofs.laws.gains_of_shared_frames_give_up_nothing.Goals as goal

pub returns-clause-gained : goal.returns-clause-gained
returns-clause-gained c = shared_gained

pub returns-clause-child : goal.returns-clause-child
returns-clause-child c = λ v is g f r away t own. is.walled f g own r away t
