use Rattle.std.proofs.Common.{◌∙◌, arith}
use Rattle.asm_words.proofs.Values.{turn}
use Rattle.asm_words.proofs.numeral.value_of.Goals as goal

pub loop-b-preserved : goal.loop-b-preserved
loop-b-preserved c = record {
  within = omega arith;
  worth = turn c.args.base c.loop-b.value c.loop-b.b-index c.digit_value.result c.min-value.result
      c.args.digits.now c.requires.some c.loop-b-test.true c.digit_value.ensures c.min-value.ensures
      ∙ c.loop-b.invariant.worth;
}
