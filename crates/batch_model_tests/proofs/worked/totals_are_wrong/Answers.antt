use Rattle.batch_model_tests.proofs.Refusing as refusing
use Rattle.batch_model_tests.proofs.worked.totals_are_wrong.Goals as goal

pub returns-clause-counted : goal.returns-clause-counted
returns-clause-counted c = refusing.counted_wrong

pub returns-clause-free : goal.returns-clause-free
returns-clause-free c = refusing.free_wrong
