use Rattle.std.proofs.Common.{codes, rules, refl, arith}
use Rattle.std.proofs.lemmas.Slice.Eq.{text_from_reads}
use Rattle.asm_lines.proofs.mnemonic.directive_named.Goals as goal

pub returns-in-46-2 : goal.returns-in-46-2
returns-in-46-2 c =
    let is = text_from_reads c.args.word.now (codes ".entry") (omega arith) (search rules) in
    rw is refl

pub returns-in-46 : goal.returns-in-46
returns-in-46 c =
    let is = text_from_reads c.args.word.now (codes ".segment") (omega arith) (search rules) in
    rw is refl
