-- What a file is: an image, or the first fault of a table.
use Rattle.std.specs.Prelude.{ℕ, ◌+◌, ◌*◌, ◌%◌, ◌==◌, nat_lt}
use Rattle.std.specs.Prelude.{Bool, not, ◌&&◌, ◌||◌, if◌then◌else◌, List, [], ◌∷◌, ◌++◌, length}
use Rattle.std.specs.Prelude.{Option, Some, None, Result, Ok, Err}
use Rattle.std.specs.List.{list_any, starts_with}
use Rattle.image_model.specs.Files.{file_limit}
use Rattle.image_model.specs.Pages.{page_of}
use Rattle.image_model.specs.StartOf.{segments_permission}
use Rattle.image_model.specs.declared.image.Image.{Image}
use Rattle.elf64.specs.Fields.{file_header_size, ei_class, ei_data, e_type, e_machine, e_entry}
use Rattle.elf64.specs.Fields.{e_phoff, e_phentsize, e_phnum, program_header_size}
use Rattle.elf64.specs.Fields.{elfmag, elfclass64, elfdata2lsb, et_exec, em_riscv}
use Rattle.elf64.specs.Segments.{loads, has_wrong_range, has_wrong_address, has_overlap}
use Rattle.elf64.specs.Segments.{file_sizes, segments_of}
use Rattle.elf64.specs.declared.fault.ElfFault.{ElfFault}
use Rattle.elf64.specs.declared.fault.ElfFault.TheVariants as faults

-- ---- the image of a file without fault

abbrev pub image_of : List ℕ → Image
image_of bytes = record { entry = e_entry bytes; segments = segments_of bytes (loads bytes) }

-- ---- tests, each of one row

abbrev pub most_program_headers : ℕ
most_program_headers = 64

abbrev pub most_loads : ℕ
most_loads = 16

abbrev pub is_short : List ℕ → Bool
is_short bytes = nat_lt (length bytes) file_header_size

abbrev pub is_too_big : List ℕ → Bool
is_too_big bytes =
    nat_lt file_limit (length bytes) || nat_lt most_program_headers (e_phnum bytes)

abbrev pub has_other_magic : List ℕ → Bool
has_other_magic bytes = not (starts_with (λ a b. a == b) bytes elfmag)

abbrev pub has_other_class : List ℕ → Bool
has_other_class bytes = not (ei_class bytes == elfclass64)

abbrev pub has_other_order : List ℕ → Bool
has_other_order bytes = not (ei_data bytes == elfdata2lsb)

abbrev pub is_not_executable : List ℕ → Bool
is_not_executable bytes = not (e_type bytes == et_exec)

abbrev pub is_for_other_machine : List ℕ → Bool
is_for_other_machine bytes = not (e_machine bytes == em_riscv)

abbrev pub has_program_headers : List ℕ → Bool
has_program_headers bytes = nat_lt 0 (e_phnum bytes)

abbrev pub has_other_header_size : List ℕ → Bool
has_other_header_size bytes =
    has_program_headers bytes && not (e_phentsize bytes == program_header_size)

abbrev pub has_headers_outside : List ℕ → Bool
has_headers_outside bytes =
    has_program_headers bytes
    && nat_lt (length bytes) (e_phoff bytes + program_header_size * e_phnum bytes)

abbrev pub has_too_many_loads : List ℕ → Bool
has_too_many_loads bytes = nat_lt most_loads (length (loads bytes))

abbrev pub has_wrong_ranges : List ℕ → Bool
has_wrong_ranges bytes = list_any (has_wrong_range (length bytes)) (loads bytes)

abbrev pub has_too_many_file_bytes : List ℕ → Bool
has_too_many_file_bytes bytes = nat_lt file_limit (file_sizes (loads bytes))

abbrev pub has_wrong_addresses : List ℕ → Bool
has_wrong_addresses bytes = list_any has_wrong_address (loads bytes)

abbrev pub has_overlaps : List ℕ → Bool
has_overlaps bytes = has_overlap (loads bytes)

-- the page of the address may be executed
abbrev pub is_executable_at : Image → ℕ → Bool
is_executable_at image a = (segments_permission image.segments (page_of a)).executable

-- the entry is between two instructions, or isn't on an executable page
abbrev pub has_wrong_entry : List ℕ → Bool
has_wrong_entry bytes =
    not (e_entry bytes % 4 == 0) || not (is_executable_at (image_of bytes) (e_entry bytes))

-- ---- the table: the fault of the first row whose test is true

unfoldable pub file_checks : List ℕ → List (Bool × ElfFault)
file_checks bytes =
    (is_short bytes, faults.Short)
    ∷ (is_too_big bytes, faults.TooBig)
    ∷ (has_other_magic bytes, faults.Magic)
    ∷ (has_other_class bytes, faults.Class)
    ∷ (has_other_order bytes, faults.Order)
    ∷ (is_not_executable bytes, faults.FileKind)
    ∷ (is_for_other_machine bytes, faults.Machine)
    ∷ []

unfoldable pub header_checks : List ℕ → List (Bool × ElfFault)
header_checks bytes =
    (has_other_header_size bytes, faults.HeaderSize)
    ∷ (has_headers_outside bytes, faults.ProgramHeader)
    ∷ (has_too_many_loads bytes, faults.TooBig)
    ∷ []

unfoldable pub segment_checks : List ℕ → List (Bool × ElfFault)
segment_checks bytes =
    (has_wrong_ranges bytes, faults.SegmentRange)
    ∷ (has_too_many_file_bytes bytes, faults.TooBig)
    ∷ (has_wrong_addresses bytes, faults.Address)
    ∷ (has_overlaps bytes, faults.Overlap)
    ∷ (has_wrong_entry bytes, faults.Entry)
    ∷ []

abbrev pub checks : List ℕ → List (Bool × ElfFault)
checks bytes = file_checks bytes ++ (header_checks bytes ++ segment_checks bytes)

abbrev pub first_fault : List (Bool × ElfFault) → Option ElfFault
first_fault [] = None
first_fault (row ∷ rows) = if row.0 then Some row.1 else first_fault rows

abbrev pub image_unless : Option ElfFault → Image → Result Image ElfFault
image_unless None image = Ok image
image_unless (Some fault) image = Err fault

-- ---- the image of a file, or its first fault

abbrev pub elf : List ℕ → Result Image ElfFault
elf bytes = image_unless (first_fault (checks bytes)) (image_of bytes)
