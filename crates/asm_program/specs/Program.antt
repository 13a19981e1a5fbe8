-- What was read of a text so far, and what a line more makes of it.
use Rattle.std.specs.Prelude.{ℕ, ◌+◌, nat_lt, Bool, if◌then◌else◌, bytes_eq}
use Rattle.std.specs.Prelude.{List, [], ◌∷◌, ◌++◌, Option, Some, None, is_some, option_to_list}
use Rattle.std.specs.Prelude.{Result, Ok, Err}
use Rattle.std.specs.Map.{update}
use Rattle.asm_lines.specs.Statement as statements
use Rattle.asm_lines.specs.Statement.{Statement, statement, and_then}
use Rattle.asm_lines.specs.declared.fault.AsmKind.{AsmKind}
use Rattle.asm_lines.specs.declared.fault.AsmKind.TheVariants as kinds

-- ---- what was read so far

-- bytes of a segment, by what a line says, with the line and the address of the first
pub record Piece : Type 0 where
  pub line : ℕ
  pub address : ℕ
  pub says : Statement

-- a segment; its pieces stand in the order of the text, and end before an address
pub record Part : Type 0 where
  pub at : ℕ
  pub flags : ℕ
  pub size : ℕ
  pub end : ℕ
  pub pieces : List Piece

-- the label at which the program begins, and the line that says it
pub record Entry : Type 0 where
  pub line : ℕ
  pub name : List ℕ

-- The segments that are complete, in the order of the text, and the one that lines add to; the
-- address of each label, by its name.
pub record Program : Type 0 where
  pub done : List Part
  pub last : Option Part
  pub labels : List ℕ → Option ℕ
  pub entry : Option Entry

abbrev pub no_program : Program
no_program = record { done = []; last = None; labels = λ name. None; entry = None }

abbrev pub parts_of : Program → List Part
parts_of program = program.done ++ option_to_list program.last

-- how many bytes a statement makes
abbrev pub byte_count : Statement → ℕ
byte_count statements.Nothing = 0
byte_count (statements.Label name) = 0
byte_count (statements.Segment at flags size) = 0
byte_count (statements.Entry name) = 0
byte_count (statements.Word w) = 4
byte_count (statements.Byte b) = 1
byte_count (statements.Zeros n) = n
byte_count (statements.BranchTo op rs1 rs2 name) = 4
byte_count (statements.JumpTo rd name) = 4

-- the address of what comes next
abbrev pub here : Option Part → ℕ
here None = 0
here (Some part) = part.end

-- ---- a line more

abbrev pub with_label : Program → List ℕ → Result Program AsmKind
with_label program name =
    if is_some (program.labels name) then Err kinds.TwiceDefined
    else Ok (record program {
      labels = update bytes_eq program.labels name (Some (here program.last));
    })

-- no line adds to the last segment any more
abbrev pub complete : Program → Program
complete program = record program { done = parts_of program; last = None }

abbrev pub with_part : Program → (at flags size : ℕ) → Program
with_part program at flags size = record (complete program) {
  last = Some (record { at = at; flags = flags; size = size; end = at; pieces = [] });
}

-- the entry of a program that has none
abbrev pub first_entry : Option Entry → Entry → Result Entry AsmKind
first_entry None entry = Ok entry
first_entry (Some other) entry = Err kinds.TwiceDefined

abbrev pub with_entry : Program → (line : ℕ) → List ℕ → Result Program AsmKind
with_entry program line name =
    and_then (first_entry program.entry (record { line = line; name = name }))
    (λ entry. Ok (record program { entry = Some entry }))

-- the segment is longer than its size with a statement more
abbrev pub is_too_long : Part → Statement → Bool
is_too_long part says = nat_lt (part.at + part.size) (part.end + byte_count says)

abbrev pub part_with : Part → (line : ℕ) → Statement → Part
part_with part line says = record part {
  end = part.end + byte_count says;
  pieces = part.pieces ++ record { line = line; address = part.end; says = says } ∷ [];
}

-- the segment with bytes more, where they fit
abbrev pub part_if_fits : Part → (line : ℕ) → Statement → Result Part AsmKind
part_if_fits part line says =
    if is_too_long part says then Err kinds.OutOfRange else Ok (part_with part line says)

-- the last segment with bytes more
abbrev pub last_with : Option Part → (line : ℕ) → Statement → Result Part AsmKind
last_with None line says = Err kinds.BadShape
last_with (Some part) line says = part_if_fits part line says

abbrev pub with_piece : Program → (line : ℕ) → Statement → Result Program AsmKind
with_piece program line says =
    and_then (last_with program.last line says)
    (λ part. Ok (record program { last = Some part }))

-- the program with what a line says
abbrev pub with_statement : Program → (line : ℕ) → Statement → Result Program AsmKind
with_statement program line statements.Nothing = Ok program
with_statement program line (statements.Label name) = with_label program name
with_statement program line (statements.Segment at flags size) =
    Ok (with_part program at flags size)
with_statement program line (statements.Entry name) = with_entry program line name
with_statement program line (statements.Word w) = with_piece program line (statements.Word w)
with_statement program line (statements.Byte b) = with_piece program line (statements.Byte b)
with_statement program line (statements.Zeros n) = with_piece program line (statements.Zeros n)
with_statement program line (statements.BranchTo op rs1 rs2 name) =
    with_piece program line (statements.BranchTo op rs1 rs2 name)
with_statement program line (statements.JumpTo rd name) =
    with_piece program line (statements.JumpTo rd name)

-- a line is within a segment once one has begun
abbrev pub with_line : Program → (line : ℕ) → List ℕ → Result Program AsmKind
with_line program line text =
    and_then (statement (is_some program.last) text) (with_statement program line)
