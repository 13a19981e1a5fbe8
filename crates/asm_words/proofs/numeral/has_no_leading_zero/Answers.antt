use Rattle.std.proofs.Common.{◌≡◌, ◌≢◌, ℕ, length, arith}
use Rattle.std.specs.Prelude.{nat_lt, ◌==◌, ◌||◌}
use Rattle.std.proofs.lemmas.Bool.Decides.{nat_tests}
use Rattle.asm_words.proofs.numeral.has_no_leading_zero.Goals as goal

above_zero : (n a b : ℕ) → n ≢ 1 → a ≡ b → nat_lt 48 a ≡ (n == 1 || nat_lt 48 b)
above_zero n a b h e = grind (arith, nat_tests)

pub returns-else-digits-eq1 : goal.returns-else-digits-eq1
returns-else-digits-eq1 c =
    above_zero (length c.args.digits.now) c.byte_at.result _ c.if-digits-eq1.false c.byte_at.ensures
