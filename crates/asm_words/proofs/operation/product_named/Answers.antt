use Rattle.std.proofs.Common.{codes, rules, refl, arith}
use Rattle.std.proofs.lemmas.Slice.Eq.{text_from_reads}
use Rattle.asm_words.proofs.operation.product_named.Goals as goal

pub returns-in-mulhsu : goal.returns-in-mulhsu
returns-in-mulhsu c =
    let word = c.args.word.now in
    let is = text_from_reads word (codes "mulhsu") (omega arith) (search rules) in
    rw is refl
