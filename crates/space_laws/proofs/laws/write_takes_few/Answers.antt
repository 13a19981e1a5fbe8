use Rattle.space_laws.proofs.Stretches.{write-few, need-few}
use Rattle.space_laws.proofs.laws.write_takes_few.Goals as goal

pub returns-clause-frames : goal.returns-clause-frames
returns-clause-frames c = write-few

pub returns-clause-need : goal.returns-clause-need
returns-clause-need c = need-few
