use Rattle.std.proofs.Common.{ℕ, List, Result, length, ap, ◌∙◌, subst}
use Rattle.asm_words.specs.Text.{lines}
use Rattle.asm_program.specs.Reading.{LineFault, reading}
use Rattle.rv_asm.specs.Answered.{Answers}
use Rattle.rv_asm.proofs.Meaning.{meaning}
use Rattle.rv_asm.proofs.assembler.assemble.Goals as goal

pub returns : goal.returns
returns c =
    subst (λ (meant : Result (List ℕ) LineFault). Answers meant c.file_of.result)
    (meaning c.args.text.now c.in_ok-reading.reading
    (c.in_ok-reading.ensures.value ∙ ap reading c.as_bytes.ensures.value)
    (λ none. c.in_ok-reading.ensures.count none
    ∙ ap (λ text. length (lines text)) c.as_bytes.ensures.value))
    c.file_of.ensures
