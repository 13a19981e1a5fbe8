use Rattle.batch_model.proofs.Closing.{frames_exactly, memory_exactly}
use Rattle.batch_model.proofs.laws.ends_are_the_journals.Goals as goal

pub returns-clause-frames : goal.returns-clause-frames
returns-clause-frames c = frames_exactly

pub returns-clause-memory : goal.returns-clause-memory
returns-clause-memory c = memory_exactly
