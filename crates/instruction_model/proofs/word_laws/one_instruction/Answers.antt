-- The law is `one_reading`.
use Rattle.instruction_model.proofs.Completeness.{one_reading}
use Rattle.instruction_model.proofs.word_laws.one_instruction.Goals as goal

pub returns : goal.returns
returns c = one_reading
