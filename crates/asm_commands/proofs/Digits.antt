-- Hexadecimal digits behind zeros.
use Rattle.std.proofs.Common.{◌≡◌, ℕ, refl}
use Rattle.asm_commands.specs.Listing.{two_digits}
use Rattle.output_buffer.specs.Pieces.{padded}
use Rattle.rv_asm.specs.Disassembly.{eight_digits}

pub two : (n : ℕ) → padded 2 n ≡ two_digits n
unfolding padded two_digits
two n = refl

pub eight : (n : ℕ) → padded 8 n ≡ eight_digits n
unfolding padded eight_digits
eight n = refl
