use Rattle.instruction_model.specs.Reading.{reading}
use Rattle.asm_laws.proofs.Law.{word_read}
use Rattle.asm_laws.proofs.reading_back.text_is_read_back.Goals as goal

pub returns : goal.returns
returns c = λ w h. word_read w (reading w) h (c.every_word.ensures w h)
