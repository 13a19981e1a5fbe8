-- What the images of a plan start with.
use Rattle.std.specs.Prelude.{ℕ, ◌+◌, ◌<◌, nat_lt, Bool, ◌||◌, if◌then◌else◌, List, [], ◌∷◌}
use Rattle.std.specs.Prelude.{length, take, IsOk}
use Rattle.std.specs.Prelude.{Option, Some, None, Result, Ok, Err}
use Rattle.std.specs.List.{sum_by}
use Rattle.elf64.specs.Elf.{elf}
use Rattle.elf64.specs.declared.fault.ElfFault.{ElfFault}
use Rattle.elf64.specs.declared.fault.ElfFault.TheVariants.{TooBig}
use Rattle.image_model.specs.Layout.{Layout}
use Rattle.image_model.specs.StartOf.{start_of}
use Rattle.image_model.specs.declared.image.Image.{Image as Program}
use Rattle.plan_tables.specs.declared.fault.PlanFault.{PlanFault}
use Rattle.plan_tables.specs.declared.fault.PlanFault.TheVariants as faults
use Rattle.plan_text.specs.declared.images.Totals.{Totals}

-- all files of a plan have at most so many bytes together, and load at most as many
abbrev pub largest_total : ℕ
largest_total = 67108864

abbrev pub no_totals : Totals
no_totals = record { file_bytes = 0; loaded_bytes = 0 }

-- the file bytes of the image's segments, which are the p_filesz of its file's PT_LOADs
abbrev pub loaded_bytes : Program → ℕ
loaded_bytes image = sum_by (λ s. length s.bytes) image.segments

-- with so many bytes of a file and loaded bytes more
abbrev pub totals_more : Totals → (file_more loaded_more : ℕ) → Totals
totals_more before file_more loaded_more = record {
  file_bytes = before.file_bytes + file_more;
  loaded_bytes = before.loaded_bytes + loaded_more;
}

-- with one image more
abbrev pub totals_with : Totals → (bytes : List ℕ) → Program → Totals
totals_with before bytes image = totals_more before (length bytes) (loaded_bytes image)

-- so many bytes, where they aren't too many
abbrev pub total_within : ℕ → Option ℕ
total_within n = if nat_lt largest_total n then None else Some n

abbrev pub are_too_big : Totals → Bool
are_too_big t = nat_lt largest_total t.file_bytes || nat_lt largest_total t.loaded_bytes

-- ---- an image after those before it

abbrev pub within_total : Totals → Program → Result (Program × Totals) PlanFault
within_total totals image =
    if are_too_big totals then Err (faults.Image TooBig) else Ok (image, totals)

abbrev pub image_within : Totals → (bytes : List ℕ) → Result Program ElfFault
    → Result (Program × Totals) PlanFault
image_within before bytes (Err fault) = Err (faults.Image fault)
image_within before bytes (Ok image) = within_total (totals_with before bytes image) image

abbrev pub file_image : Totals → Option (List ℕ) → Result (Program × Totals) PlanFault
file_image before None = Err faults.File
file_image before (Some bytes) = image_within before bytes (elf bytes)

-- ---- all of them

abbrev pub with_start : Layout → Result (List Layout) PlanFault → Result (List Layout) PlanFault
with_start start (Err fault) = Err fault
with_start start (Ok starts) = Ok (start ∷ starts)

-- the start of an image before those that the rest gives
abbrev pub starts_with : (stack : ℕ) → Result (Program × Totals) PlanFault
    → (Totals → Result (List Layout) PlanFault) → Result (List Layout) PlanFault
starts_with stack (Err fault) rest = Err fault
starts_with stack (Ok image) rest = with_start (start_of image.0 stack) (rest image.1)

-- The starts of the files of these names with a stack of so many bytes, or the first fault.
unfoldable pub starts_of : (List ℕ → Option (List ℕ)) → (stack : ℕ) → List (List ℕ) → Totals
    → Result (List Layout) PlanFault
starts_of file_of stack [] before = Ok []
starts_of file_of stack (name ∷ names) before =
    starts_with stack (file_image before (file_of name)) (starts_of file_of stack names)

-- the reading stops at one of these files, whose image comes after images that were all right
abbrev pub StopsAtOne : (List ℕ → Option (List ℕ)) → (stack : ℕ) → List (List ℕ) → Type 0
StopsAtOne file_of stack names = (i : ℕ) × ((i < length names)
    × IsOk (starts_of file_of stack (take i names) no_totals))
