use Rattle.std.proofs.Common.{◌≡◌, ℕ, ◌<◌, Option, Some, None, option_map, arith}
use Rattle.std.proofs.lemmas.Bool.Decides.{nat_tests}
use Rattle.asm_words.specs.Near.{near_size}
use Rattle.asm_words.specs.Numbers.{decimal_value}
use Rattle.asm_words.specs.Registers.{register_number}
use Rattle.asm_words.proofs.register.register_by_number.Goals as goal

small : (m : ℕ) → m < 32 → Some m ≡ register_number (Some m)
small m h = grind (arith, nat_tests)

by_number : (o : Option ℕ) (n : ℕ) → Some n ≡ option_map near_size o → n < 32 → Some n ≡ register_number o
by_number None n e h = cc
by_number (Some m) n e h =
    let near : n ≡ near_size m = cc in
    let same : n ≡ m = omega arith in
    let below : m < 32 = omega arith in
    rw same (small m below)

pub returns-then-number-lt-REGISTERS-clause-value : goal.returns-then-number-lt-REGISTERS-clause-value
returns-then-number-lt-REGISTERS-clause-value c =
    by_number (decimal_value c.args.digits.now) c.in_ok-number.number c.in_ok-number.ensures c.if-number-lt-REGISTERS.true

pub returns-then-number-lt-REGISTERS-clause-range : goal.returns-then-number-lt-REGISTERS-clause-range
returns-then-number-lt-REGISTERS-clause-range c = c.if-number-lt-REGISTERS.true
