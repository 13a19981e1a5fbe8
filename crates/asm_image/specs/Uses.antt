-- The labels that a text uses, once the addresses of all are known.
use Rattle.std.specs.Prelude.{ℕ, min, Bool, false, not, if◌then◌else◌}
use Rattle.std.specs.Prelude.{ℤ, pos, negsuc, ◌-ℤ◌, List, [], ◌∷◌, is_err, Result}
use Rattle.std.specs.Prelude.{Option, Some, None, option_map, is_some}
use Rattle.std.specs.List.{flat_map}
use Rattle.asm_lines.specs.Statement as statements
use Rattle.asm_lines.specs.Statement.{Statement, or_else, ranged_even}
use Rattle.asm_lines.specs.declared.fault.AsmKind.{AsmKind}
use Rattle.asm_lines.specs.declared.fault.AsmKind.TheVariants as kinds
use Rattle.asm_program.specs.Program.{Piece, Part, Entry}
use Rattle.asm_program.specs.Reading.{LineFault, Reading}

-- ---- how far a label is

-- the label's address from another on, or none where the label isn't defined
abbrev pub offset : (List ℕ → Option ℕ) → List ℕ → (address : ℕ) → Option ℤ
offset labels name address = option_map (λ a. pos a -ℤ pos address) (labels name)

-- the offset of a branch is even and has 13 bits, and that of a jump 21
abbrev pub branch_offset : ℤ → Result ℤ AsmKind
branch_offset z = ranged_even (negsuc 4095) (pos 4095) z

abbrev pub jump_offset : ℤ → Result ℤ AsmKind
jump_offset z = ranged_even (negsuc 1048575) (pos 1048575) z

abbrev pub is_outside : (ℤ → Result ℤ AsmKind) → Option ℤ → Bool
is_outside range None = false
is_outside range (Some z) = is_err (range z)

-- ---- pieces that go to a label

-- the piece goes to a label that it can't reach
abbrev pub is_far_for : (List ℕ → Option ℕ) → (address : ℕ) → Statement → Bool
is_far_for labels address statements.Nothing = false
is_far_for labels address (statements.Label name) = false
is_far_for labels address (statements.Segment at flags size) = false
is_far_for labels address (statements.Entry name) = false
is_far_for labels address (statements.Word w) = false
is_far_for labels address (statements.Byte b) = false
is_far_for labels address (statements.Zeros n) = false
is_far_for labels address (statements.BranchTo op rs1 rs2 name) =
    is_outside branch_offset (offset labels name address)
is_far_for labels address (statements.JumpTo rd name) =
    is_outside jump_offset (offset labels name address)

abbrev pub is_far : (List ℕ → Option ℕ) → Piece → Bool
is_far labels p = is_far_for labels p.address p.says

-- the statement goes to a label that isn't defined
abbrev pub is_lost_for : (List ℕ → Option ℕ) → Statement → Bool
is_lost_for labels statements.Nothing = false
is_lost_for labels (statements.Label name) = false
is_lost_for labels (statements.Segment at flags size) = false
is_lost_for labels (statements.Entry name) = false
is_lost_for labels (statements.Word w) = false
is_lost_for labels (statements.Byte b) = false
is_lost_for labels (statements.Zeros n) = false
is_lost_for labels (statements.BranchTo op rs1 rs2 name) = not (is_some (labels name))
is_lost_for labels (statements.JumpTo rd name) = not (is_some (labels name))

abbrev pub is_lost : (List ℕ → Option ℕ) → Piece → Bool
is_lost labels p = is_lost_for labels p.says

-- ---- the first faulty line

abbrev pub pieces_of : List Part → List Piece
pieces_of parts = flat_map (λ part. part.pieces) parts

-- the line of the first piece that passes
abbrev pub first_line : (Piece → Bool) → List Piece → Option ℕ
first_line test [] = None
first_line test (p ∷ ps) = if test p then Some p.line else first_line test ps

abbrev pub lost_entry : (List ℕ → Option ℕ) → Option Entry → Option ℕ
lost_entry labels None = None
lost_entry labels (Some e) = if is_some (labels e.name) then None else Some e.line

abbrev pub earlier : Option ℕ → Option ℕ → Option ℕ
earlier None other = other
earlier (Some m) None = Some m
earlier (Some m) (Some n) = Some (min m n)

-- the first line with a label that is too far
abbrev pub far_line : Reading → Option ℕ
far_line reading = first_line (is_far reading.labels) (pieces_of reading.parts)

-- the first line with a label that isn't defined
abbrev pub lost_line : Reading → Option ℕ
lost_line reading =
    earlier (first_line (is_lost reading.labels) (pieces_of reading.parts))
    (lost_entry reading.labels reading.entry)

abbrev pub at_line : AsmKind → Option ℕ → Option LineFault
at_line kind line = option_map (λ n. record { line = n; kind = kind }) line

-- The first fault of the lines: a label that is too far, where it is defined before the line that
-- is faulty in itself; that line; a label that isn't defined.
abbrev pub lines_fault : Reading → Option LineFault
lines_fault reading =
    or_else (at_line kinds.OutOfRange (far_line reading))
    (or_else reading.fault (at_line kinds.Undefined (lost_line reading)))
