use Rattle.line_laws.proofs.Right.{batch_is_right, started_are_given, started_are_these}
use Rattle.line_laws.proofs.Settled.{settled_is_whole}
use Rattle.line_laws.proofs.batches.batches_are_right.Goals as goal

pub returns-clause-whole : goal.returns-clause-whole
returns-clause-whole c = settled_is_whole

pub returns-clause-given : goal.returns-clause-given
returns-clause-given c = started_are_given

pub returns-clause-started : goal.returns-clause-started
returns-clause-started c = started_are_these

pub returns-clause-right : goal.returns-clause-right
returns-clause-right c = batch_is_right
