use Rattle.journal_laws.proofs.Folding.{joined, joined_one}
use Rattle.journal_laws.proofs.appending.journals_follow_one_another.Goals as goal

pub returns-clause-joined : goal.returns-clause-joined
returns-clause-joined c = joined

pub returns-clause-one : goal.returns-clause-one
returns-clause-one c = joined_one
