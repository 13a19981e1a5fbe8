use Rattle.machine_model.proofs.Hypercalls as hypercalls
use Rattle.machine_model.proofs.machine_laws.hypercall_keeps_valid.Goals as goal

pub returns-clause-done : goal.returns-clause-done
returns-clause-done c = hypercalls.done-keeps

pub returns-clause-rests : goal.returns-clause-rests
returns-clause-rests c = hypercalls.rests-keeps

pub returns-clause-halts : goal.returns-clause-halts
returns-clause-halts c = hypercalls.halts-keeps
