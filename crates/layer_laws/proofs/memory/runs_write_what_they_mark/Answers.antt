use Rattle.layer_laws.proofs.Stored as stored
use Rattle.layer_laws.proofs.memory.runs_write_what_they_mark.Goals as goal

pub returns-clause-bytes : goal.returns-clause-bytes
returns-clause-bytes c = stored.run_bytes

pub returns-clause-marks : goal.returns-clause-marks
returns-clause-marks c = stored.run_marks
