-- The law is `reading-decodes`.
use Rattle.instruction_model.proofs.Completeness.{reading-decodes}
use Rattle.instruction_model.proofs.word_laws.every_word.Goals as goal

pub returns : goal.returns
returns c = reading-decodes
