-- The tests of labels that the code makes one after the other, by their names.
use Rattle.std.specs.Prelude.{ℕ, Bool, List, Option}
use Rattle.asm_image.specs.Uses.{is_far, is_lost}
use Rattle.asm_image.specs.declared.faults.Misuse.{Misuse}
use Rattle.asm_image.specs.declared.faults.Misuse.TheVariants.{Far, Lost}
use Rattle.asm_program.specs.Program.{Piece}

abbrev pub is_misused : Misuse → (List ℕ → Option ℕ) → Piece → Bool
is_misused Far labels p = is_far labels p
is_misused Lost labels p = is_lost labels p
