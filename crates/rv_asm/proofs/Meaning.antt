-- What a text means, by what was read of it.
use Rattle.std.proofs.Common.{◌≡◌, ℕ, max, List, length, Bool, true, false, cond, refl, sym, ap, ◌∙◌}
use Rattle.std.proofs.Common.{Option, Some, None, option_map, Ok, Err}
use Rattle.image_model.specs.Valid.{is_valid}
use Rattle.image_model.specs.declared.image.Image.{Image}
use Rattle.elf64_write.specs.Written.{written}
use Rattle.asm_image.specs.ImageOf.{image_of, image_if_valid}
use Rattle.asm_image.specs.Uses.{at_line, far_line, lost_line, lines_fault}
use Rattle.asm_lines.specs.Statement.{or_else}
use Rattle.asm_words.specs.Text.{lines}
use Rattle.asm_lines.specs.declared.fault.AsmKind.{AsmKind}
use Rattle.asm_lines.specs.declared.fault.AsmKind.TheVariants.{BadShape, OutOfRange, Undefined}
use Rattle.asm_program.specs.Held.{fault_of, reading_of}
use Rattle.asm_program.specs.Reading.{LineFault, Reading, reading}
use Rattle.asm_program.specs.declared.reading.LineFault.{LineFault as HeldFault}
use Rattle.asm_program.specs.declared.reading.Reading.{Reading as HeldReading}
use Rattle.rv_asm.specs.Assembly.{assembly, first_fault, file_unless, last_line}

-- ---- a text that was read

-- no line is the last one where a line is faulty before
first_same : (far fault lost : Option LineFault) (valid : Bool) (m n : ℕ) → (fault ≡ None → m ≡ n)
    → or_else (or_else far (or_else fault lost))
    (cond valid None (Some (record { line = m; kind = BadShape })))
    ≡ or_else (or_else far (or_else fault lost))
    (cond valid None (Some (record { line = n; kind = BadShape })))
first_same (Some f) fault lost valid m n same = refl
first_same None (Some f) lost valid m n same = refl
first_same None None lost valid m n same =
    ap (λ (k : ℕ). or_else lost (cond valid None (Some (record { line = k; kind = BadShape }))))
    (same refl)

no_fault : (fault : Option HeldFault) → option_map fault_of fault ≡ None → fault ≡ None
no_fault None none = refl
no_fault (Some f) none = absurd (cc)

pub meaning : (text : List ℕ) (r : HeldReading) → reading_of r ≡ reading text
    → (r.fault ≡ None → r.count ≡ length (lines text))
    → file_unless (first_fault (reading_of r) (max 1 r.count)) (image_of (reading_of r))
    ≡ assembly text
meaning text r same counted =
    ap (λ f. file_unless f (image_of (reading_of r)))
    (first_same (at_line OutOfRange (far_line (reading_of r))) (reading_of r).fault
    (at_line Undefined (lost_line (reading_of r))) (is_valid (image_of (reading_of r)))
    (max 1 r.count) (last_line text) (λ none. ap (max 1) (counted (no_fault r.fault none))))
    ∙ ap (λ q. file_unless (first_fault q (last_line text)) (image_of q)) same

-- ---- a line is faulty

pub fault_of_lines : (r : Reading) (last : ℕ) (fault : LineFault) → Some fault ≡ lines_fault r
    → file_unless (first_fault r last) (image_of r) ≡ Err fault
fault_of_lines r last fault is =
    ap (λ f. file_unless
    (or_else f (cond (is_valid (image_of r)) None (Some (record { line = last; kind = BadShape }))))
    (image_of r)) (sym is)

-- ---- no line is faulty

at_none : (kind : AsmKind) (line : Option ℕ) (others : Option LineFault)
    → or_else (at_line kind line) others ≡ None → line ≡ None
at_none kind None others none = refl
at_none kind (Some n) others none = absurd (cc)

pub none_far : (r : Reading) → lines_fault r ≡ None → far_line r ≡ None
none_far r none = at_none OutOfRange (far_line r) _ none

by_valid : (r : Reading) (last : ℕ) → lines_fault r ≡ None
    → file_unless (first_fault r last) (image_of r)
    ≡ file_unless (cond (is_valid (image_of r)) None (Some (record { line = last; kind = BadShape })))
    (image_of r)
by_valid r last none =
    ap (λ f. file_unless
    (or_else f (cond (is_valid (image_of r)) None (Some (record { line = last; kind = BadShape }))))
    (image_of r)) none

some_if : (valid : Bool) (x y : Image) → Some y ≡ cond valid (Some x) None
    → (valid ≡ true) × (y ≡ x)
some_if true x y is = (refl, cc)
some_if false x y is = absurd (cc)

none_if : (valid : Bool) (x : Image) → None ≡ cond valid (Some x) None → valid ≡ false
none_if true x is = absurd (cc)
none_if false x is = refl

pub valid_one : (r : Reading) (image : Image) → Some image ≡ image_if_valid r
    → (is_valid (image_of r) ≡ true) × (image ≡ image_of r)
valid_one r image is = some_if (is_valid (image_of r)) (image_of r) image is

pub file_of_valid : (r : Reading) (last : ℕ) (image : Image) (file : List ℕ) → lines_fault r ≡ None
    → Some image ≡ image_if_valid r → file ≡ written image
    → file_unless (first_fault r last) (image_of r) ≡ Ok file
file_of_valid r last image file none is same =
    let one = valid_one r image is in
    by_valid r last none
    ∙ ap (λ (valid : Bool). file_unless
    (cond valid None (Some (record { line = last; kind = BadShape }))) (image_of r)) one.0
    ∙ ap Ok (ap written (sym one.1) ∙ sym same)

pub fault_of_invalid : (r : Reading) (last : ℕ) → lines_fault r ≡ None → None ≡ image_if_valid r
    → file_unless (first_fault r last) (image_of r)
    ≡ Err (record { line = last; kind = BadShape })
fault_of_invalid r last none is =
    by_valid r last none
    ∙ ap (λ (valid : Bool). file_unless
    (cond valid None (Some (record { line = last; kind = BadShape }))) (image_of r))
    (none_if (is_valid (image_of r)) (image_of r) is)
