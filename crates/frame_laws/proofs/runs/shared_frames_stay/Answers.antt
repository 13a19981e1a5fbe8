use Rattle.frame_laws.proofs.Unchanged.{turns_shared}
use Rattle.frame_laws.proofs.runs.shared_frames_stay.Goals as goal

pub returns : goal.returns
returns c = turns_shared
