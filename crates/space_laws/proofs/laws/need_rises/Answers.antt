use Rattle.std.proofs.Common.{add-one}
use Rattle.space_laws.proofs.Stretches.{need-none, need-there, need-rises}
use Rattle.space_laws.proofs.laws.need_rises.Goals as goal

pub returns-clause-none : goal.returns-clause-none
returns-clause-none c = need-none

pub returns-clause-there : goal.returns-clause-there
returns-clause-there c = need-there

pub returns-clause-more : goal.returns-clause-more
returns-clause-more c = λ takes written at n. rw add-one (need-rises takes written at n)
