-- The first fault of a table in parts.
use Rattle.std.proofs.Common.{◌≡◌, ℕ, Bool, true, false, not, ◌&&◌, if◌then◌else◌, List, []}
use Rattle.std.proofs.Common.{◌∷◌, ◌++◌, Option, Some, None, Err, refl, sym, ap, ◌∙◌}
use Rattle.std.specs.List.{list_all}
use Rattle.image_model.specs.declared.image.Image.{Image}
use Rattle.elf64.specs.Elf.{elf, image_unless, checks, first_fault, file_checks}
use Rattle.elf64.specs.Elf.{header_checks, segment_checks}
use Rattle.elf64.specs.declared.fault.ElfFault.{ElfFault}
use Rattle.elf64.specs.declared.fault.ElfFault.TheVariants.{Memory}

found_step : (b : Bool) (x f : ElfFault) (r s : Option ElfFault) → (r ≡ Some f → s ≡ Some f)
    → (if b then Some x else r) ≡ Some f → (if b then Some x else s) ≡ Some f
found_step true x f r s later found = found
found_step false x f r s later found = later found

-- a fault of the first rows is the first of all
pub found_first : (rows more : List (Bool × ElfFault)) (f : ElfFault)
    → first_fault rows ≡ Some f → first_fault (rows ++ more) ≡ Some f
found_first [] more f found = absurd cc
found_first (row ∷ rows) more f found = found_step row.0 row.1 f _ _ (found_first rows more f) found

none_step : (b : Bool) (x : ElfFault) (r s t : Option ElfFault) → (r ≡ None → s ≡ t)
    → (if b then Some x else r) ≡ None → (if b then Some x else s) ≡ t
none_step true x r s t later none = absurd cc
none_step false x r s t later none = later none

-- without a fault in the first rows, that of the others is
pub found_later : (rows more : List (Bool × ElfFault))
    → first_fault rows ≡ None → first_fault (rows ++ more) ≡ first_fault more
found_later [] more none = refl
found_later (row ∷ rows) more none = none_step row.0 row.1 _ _ _ (found_later rows more) none

-- ---- want of memory is in no row

and_parts : (a b : Bool) → (a && b) ≡ true → (a ≡ true) × (b ≡ true)
and_parts true b h = (refl, h)
and_parts false b h = absurd cc

not_true : (b : Bool) → not b ≡ true → b ≡ false
not_true true h = absurd cc
not_true false h = refl

is_memory : ElfFault → Bool
is_memory Memory = true
is_memory f = false

memory_step : (b : Bool) (x : ElfFault) (r : Option ElfFault) → is_memory x ≡ false
    → (r ≡ Some Memory → ⊥)
    → (if b then Some x else r) ≡ Some Memory → ⊥
unfolding is_memory
memory_step true x r other later found =
    let e : x ≡ Memory = cc in let e : true ≡ false = ap is_memory (sym e) ∙ other in absurd cc
memory_step false x r other later found = later found

never : (rows : List (Bool × ElfFault)) → list_all (λ row. not (is_memory row.1)) rows ≡ true
    → first_fault rows ≡ Some Memory → ⊥
never [] others found = absurd cc
never (row ∷ rows) others found =
    let parts : (not (is_memory row.1) ≡ true) ×
    (list_all (λ row. not (is_memory row.1)) rows ≡ true) = and_parts _ _ others in
    memory_step row.0 row.1 _ (not_true _ parts.0) (never rows parts.1) found

pub no_memory : (bytes : List ℕ) → first_fault (checks bytes) ≡ Some Memory → ⊥
unfolding is_memory file_checks header_checks segment_checks
no_memory bytes = never (checks bytes) refl

err_is : (o : Option ElfFault) (image : Image) (f : ElfFault) → image_unless o image ≡ Err f
    → o ≡ Some f
err_is None image f e = absurd cc
err_is (Some g) image f e = cc

pub never_memory : (bytes : List ℕ) → elf bytes ≡ Err Memory → ⊥
never_memory bytes e = no_memory bytes (err_is _ _ _ e)
