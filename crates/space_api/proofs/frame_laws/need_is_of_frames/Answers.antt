use Rattle.space_api.proofs.Frames.{need_lacks, lacks_need, need_is_spent}
use Rattle.space_api.proofs.frame_laws.need_is_of_frames.Goals as goal

pub returns-clause-lacks : goal.returns-clause-lacks
returns-clause-lacks c = λ takes spares written at n. (
  need_lacks takes spares written at n,
  lacks_need takes spares written at n,
)

pub returns-clause-spent : goal.returns-clause-spent
returns-clause-spent c = need_is_spent
