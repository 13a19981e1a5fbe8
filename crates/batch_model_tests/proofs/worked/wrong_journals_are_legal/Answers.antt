use Rattle.batch_model_tests.proofs.Journals as journals
use Rattle.batch_model_tests.proofs.worked.wrong_journals_are_legal.Goals as goal

pub returns-clause-fewer : goal.returns-clause-fewer
returns-clause-fewer c = journals.fewer_journal

pub returns-clause-more : goal.returns-clause-more
returns-clause-more c = journals.more_journal

pub returns-clause-parked : goal.returns-clause-parked
returns-clause-parked c = journals.parked_journal

pub returns-clause-ended : goal.returns-clause-ended
returns-clause-ended c = journals.ended_journal
