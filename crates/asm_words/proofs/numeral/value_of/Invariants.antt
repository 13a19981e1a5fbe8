use Rattle.std.proofs.Common.{◌≡◌, ◌^◌, ◌≤◌, drop}
use Rattle.asm_words.specs.Near.{near_size}
use Rattle.asm_words.specs.Numbers.{value_behind}
use Rattle.asm_words.proofs.numeral.value_of.Given as goal

abbrev pub invariant-loop-b : goal.invariant-loop-b
invariant-loop-b l = record {
  within : l.value ≤ 2 ^ 64;
  worth : near_size (value_behind l.base l.value (drop l.b-index l.digits))
      ≡ near_size (value_behind l.base 0 l.digits);
}
