-- A page is executable where a PT_LOAD that may be executed has a byte on it.
use Rattle.std.proofs.Common.{◌≡◌, ℕ, ◌%◌, ◌||◌, Bool, not, nat_eq, List, []}
use Rattle.std.proofs.Common.{◌∷◌, refl, ap, ◌∙◌, arith, eq-eqb}
use Rattle.std.proofs.lemmas.Grind.{common_steps}
use Rattle.std.specs.List.{list_any}
use Rattle.image_model.specs.StartOf.{segments_permission}
use Rattle.image_model.specs.Pages.{page_of}
use Rattle.elf64.specs.Elf.{has_wrong_entry}
use Rattle.elf64.specs.Fields.{e_entry}
use Rattle.elf64.specs.Segments.{is_executable_on, loads, segments_of}
use Rattle.elf64.specs.declared.program_header.ProgramHeader.{ProgramHeader}

executable_at_more : (bytes : List ℕ) (page : ℕ) (h : ProgramHeader) (hs : List ProgramHeader)
    → (segments_permission (segments_of bytes hs) page).executable
    ≡ list_any (is_executable_on page) hs
    → (segments_permission (segments_of bytes (h ∷ hs)) page).executable
    ≡ list_any (is_executable_on page) (h ∷ hs)
executable_at_more bytes page h hs before = grind (arith, common_steps)

pub executable_at_loads : (bytes : List ℕ) (page : ℕ) (hs : List ProgramHeader)
    → (segments_permission (segments_of bytes hs) page).executable
    ≡ list_any (is_executable_on page) hs
executable_at_loads bytes page [] = refl
executable_at_loads bytes page (h ∷ hs)
    = executable_at_more bytes page h hs (executable_at_loads bytes page hs)

-- the test of the entry, for an entry and PT_LOADs
abbrev wrong_at : List ℕ → List ProgramHeader → ℕ → Bool
wrong_at bytes hs entry =
    not (nat_eq (entry % 4) 0)
    || not (segments_permission (segments_of bytes hs) (page_of entry)).executable

other_at : (bytes : List ℕ) (hs : List ProgramHeader) (entry : ℕ) (b : Bool) → entry % 4 ≡ 0
    → b ≡ list_any (is_executable_on (page_of entry)) hs
    → not b ≡ wrong_at bytes hs entry
other_at bytes hs entry b aligned executable =
    rw (eq-eqb (entry % 4) 0 aligned, executable_at_loads bytes (page_of entry) hs)
    (ap not executable)

-- an entry that isn't between two instructions is wrong where its page isn't executable
pub other_entry : (bytes : List ℕ) (hs : List ProgramHeader) (entry : ℕ) (b : Bool)
    → hs ≡ loads bytes → entry ≡ e_entry bytes → entry % 4 ≡ 0
    → b ≡ list_any (is_executable_on (page_of entry)) hs
    → not b ≡ has_wrong_entry bytes
other_entry bytes hs entry b found is aligned executable =
    other_at bytes hs entry b aligned executable
    ∙ ap (λ h. wrong_at bytes h entry) found ∙ ap (λ e. wrong_at bytes (loads bytes) e) is
