use Rattle.batch_model_tests.proofs.Refusing as refusing
use Rattle.batch_model_tests.proofs.worked.lines_are_wrong.Goals as goal

pub returns-clause-how : goal.returns-clause-how
returns-clause-how c = refusing.said_warm_wrong

pub returns-clause-context : goal.returns-clause-context
returns-clause-context c = refusing.of_another_wrong

pub returns-clause-used : goal.returns-clause-used
returns-clause-used c = refusing.used_wrong

pub returns-clause-steps : goal.returns-clause-steps
returns-clause-steps c = refusing.stepped_wrong

pub returns-clause-packets : goal.returns-clause-packets
returns-clause-packets c = refusing.packets_wrong

pub returns-clause-memory : goal.returns-clause-memory
returns-clause-memory c = refusing.memory_wrong

pub returns-clause-frames : goal.returns-clause-frames
returns-clause-frames c = refusing.frames_wrong

pub returns-clause-want : goal.returns-clause-want
returns-clause-want c = refusing.ok_wrong
