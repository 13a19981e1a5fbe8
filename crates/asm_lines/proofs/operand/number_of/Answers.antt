use Rattle.std.proofs.Common.{◌∙◌, ap, ok_or}
use Rattle.asm_words.specs.Numbers.{number}
use Rattle.asm_lines.proofs.Far.{near_or}
use Rattle.asm_lines.proofs.operand.number_of.Goals as goal
use Rattle.asm_lines.specs.declared.fault.AsmKind.TheVariants.{BadNumber}

pub returns : goal.returns
returns c =
    c.ok_or.ensures.value
    ∙ (ap (λ o. ok_or o BadNumber) c.number.ensures ∙ near_or (number c.args.word.now))
