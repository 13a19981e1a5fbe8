use Rattle.batch_laws.proofs.Ticked.{closes_ticked, goes_ticked, nothing_ticked, whole_ticked}
use Rattle.batch_laws.proofs.ticking.ticks_are_counted.Goals as goal

pub returns-clause-nothing : goal.returns-clause-nothing
returns-clause-nothing g c = nothing_ticked

pub returns-clause-goes : goal.returns-clause-goes
returns-clause-goes g c = goes_ticked

pub returns-clause-closes : goal.returns-clause-closes
returns-clause-closes g c = closes_ticked

pub returns-clause-whole : goal.returns-clause-whole
returns-clause-whole g c = whole_ticked
