use Rattle.batch_laws.proofs.Steps.{closes_one, goes_on, open_has_none, unstarted_has_none}
use Rattle.batch_laws.proofs.stepping.steps_keep_a_batch.Goals as goal

pub returns-clause-goes : goal.returns-clause-goes
returns-clause-goes g c = goes_on

pub returns-clause-closes : goal.returns-clause-closes
returns-clause-closes g c = closes_one

pub returns-clause-unanswered : goal.returns-clause-unanswered
returns-clause-unanswered g c = open_has_none

pub returns-clause-unstarted : goal.returns-clause-unstarted
returns-clause-unstarted g c = unstarted_has_none
