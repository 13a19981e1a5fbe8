use Rattle.journal_model.proofs.Frames.{moves}
use Rattle.journal_model.proofs.laws.frames_are_counted.Goals as goal

pub returns : goal.returns
returns c = λ sizes s t event h. moves sizes s event t h
