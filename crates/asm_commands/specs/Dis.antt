-- `dis`: the source is an ELF file, and the output lists the words of its executable segments.
use Rattle.std.specs.Prelude.{◌≡◌, ℕ, List, Result, Ok, Err}
use Rattle.asm_commands.specs.Listing.{listing}
use Rattle.asm_commands.specs.declared.cause.AsmCause.{AsmCause}
use Rattle.asm_commands.specs.declared.cause.AsmCause.TheVariants.{Image, Line}
use Rattle.elf64.specs.Elf.{elf}
use Rattle.image_model.specs.declared.image.Image.{Image as Program}

-- the listing of the file's image
pub record IsListing (bytes output : List ℕ) : Type 0 where
  pub program : Program
  pub image_is : elf bytes ≡ Ok program
  pub output_is : output ≡ listing program.segments

-- why there is none
abbrev pub RefusesFile : List ℕ → AsmCause → Type 0
RefusesFile bytes (Image fault) = elf bytes ≡ Err fault.fault
RefusesFile bytes (Line number kind) = ⊥

-- what comes of the file
abbrev pub Lists : List ℕ → Result (List ℕ) AsmCause → Type 0
Lists bytes (Ok output) = IsListing bytes output
Lists bytes (Err cause) = RefusesFile bytes cause
