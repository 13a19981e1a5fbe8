use Rattle.batch_model_tests.proofs.Refusing as refusing
use Rattle.batch_model_tests.proofs.worked.journals_are_wrong.Goals as goal

pub returns-clause-fewer : goal.returns-clause-fewer
returns-clause-fewer c = refusing.fewer_wrong

pub returns-clause-more : goal.returns-clause-more
returns-clause-more c = refusing.more_wrong

pub returns-clause-parked : goal.returns-clause-parked
returns-clause-parked c = refusing.parked_wrong

pub returns-clause-ended : goal.returns-clause-ended
returns-clause-ended c = refusing.ended_wrong

pub returns-clause-unparked : goal.returns-clause-unparked
returns-clause-unparked c = refusing.unparked_wrong
