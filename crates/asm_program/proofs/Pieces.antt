-- A piece more in a segment.
use Rattle.std.proofs.Common.{◌≡◌, ℕ, ◌+◌, ◌<◌, ◌&&◌, true, IsTrue, nat_lt, arith, refl}
use Rattle.std.proofs.lemmas.Bool.Decides.{nat_tests}
use Rattle.asm_lines.specs.Said.{IsInRange}
use Rattle.asm_lines.specs.Statement.{Statement, Nothing, Label, Segment, Entry, Word, Byte, Zeros}
use Rattle.asm_lines.specs.Statement.{BranchTo, JumpTo}
use Rattle.asm_program.specs.Registers.{has_registers}

one_below : (a : ℕ) → a < 32 → nat_lt a 32 ≡ true
one_below a low = grind (arith, nat_tests)

both_below : (a b : ℕ) → a < 32 → b < 32 → nat_lt a 32 && nat_lt b 32 ≡ true
both_below a b low high = grind (arith, nat_tests)

pub registers_in_range : (s : Statement) → IsInRange s → IsTrue (has_registers s)
registers_in_range Nothing range = refl
registers_in_range (Label name) range = refl
registers_in_range (Segment at flags size) range = refl
registers_in_range (Entry name) range = refl
registers_in_range (Word w) range = refl
registers_in_range (Byte b) range = refl
registers_in_range (Zeros n) range = refl
registers_in_range (BranchTo op a b name) range = both_below a b range.0 range.1
registers_in_range (JumpTo rd name) range = one_below rd range

-- a segment is too long where what its pieces use is
pub too_long : (at size used count : ℕ)
    → nat_lt (at + size) (at + used + count) ≡ nat_lt size (used + count)
too_long at size used count = grind (arith, nat_tests)
