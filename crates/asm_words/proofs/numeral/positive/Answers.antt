use Rattle.asm_words.specs.Numbers.{magnitude}
use Rattle.asm_words.proofs.Signs.{some_positive}
use Rattle.asm_words.proofs.numeral.positive.Goals as goal

pub returns : goal.returns
returns c =
    some_positive (magnitude c.args.word.now) c.in_ok-size.size c.in_ok-size.ensures
