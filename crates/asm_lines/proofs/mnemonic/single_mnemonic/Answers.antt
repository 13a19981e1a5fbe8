use Rattle.std.proofs.Common.{codes, rules, refl, arith}
use Rattle.std.proofs.lemmas.Slice.Eq.{text_from_reads}
use Rattle.asm_lines.proofs.mnemonic.single_mnemonic.Goals as goal

pub returns-in-ebreak : goal.returns-in-ebreak
returns-in-ebreak c =
    let is = text_from_reads c.args.word.now (codes "ebreak") (omega arith) (search rules) in
    rw is refl
