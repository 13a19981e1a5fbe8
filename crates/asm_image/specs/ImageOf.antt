-- The image of a text.
use Rattle.std.specs.Prelude.{ℕ, ◌^◌, nat_lt, if◌then◌else◌, ℤ, pos, List, [], ◌∷◌, map, replicate}
use Rattle.std.specs.Prelude.{Option, Some, None, unwrap_or}
use Rattle.std.specs.Int.{w32, to_le_bytes}
use Rattle.std.specs.List.{flat_map}
use Rattle.image_model.specs.Valid.{is_valid}
use Rattle.image_model.specs.declared.image.Image.{Image}
use Rattle.image_model.specs.declared.image.Segment.{Segment}
use Rattle.instruction_model.specs.InstructionWord.{word_of}
use Rattle.instruction_model.specs.declared.instruction.Inst.TheVariants.{Branch, Jal}
use Rattle.asm_image.specs.Uses.{offset}
use Rattle.asm_lines.specs.Statement as statements
use Rattle.asm_lines.specs.Statement.{Statement}
use Rattle.asm_program.specs.Program.{Piece, Part, Entry}
use Rattle.asm_program.specs.Reading.{Reading}

abbrev pub reach : (List ℕ → Option ℕ) → List ℕ → (address : ℕ) → ℤ
reach labels name address = unwrap_or (offset labels name address) (pos 0)

abbrev pub bytes_for : (List ℕ → Option ℕ) → (address : ℕ) → Statement → List ℕ
bytes_for labels address statements.Nothing = []
bytes_for labels address (statements.Label name) = []
bytes_for labels address (statements.Segment at flags size) = []
bytes_for labels address (statements.Entry name) = []
bytes_for labels address (statements.Word w) = to_le_bytes w32 w
bytes_for labels address (statements.Byte b) = b ∷ []
bytes_for labels address (statements.Zeros n) = replicate n 0
bytes_for labels address (statements.BranchTo op rs1 rs2 name) =
    to_le_bytes w32 (word_of (Branch op rs1 rs2 (reach labels name address)))
bytes_for labels address (statements.JumpTo rd name) =
    to_le_bytes w32 (word_of (Jal rd (reach labels name address)))

abbrev pub piece_bytes : (List ℕ → Option ℕ) → Piece → List ℕ
piece_bytes labels p = bytes_for labels p.address p.says

abbrev pub segment_for : (List ℕ → Option ℕ) → Part → Segment
segment_for labels part = record {
  at = part.at;
  flags = part.flags;
  size = part.size;
  bytes = flat_map (piece_bytes labels) part.pieces;
}

-- the address of the first segment, or 0 without one
abbrev pub first_address : List Part → ℕ
first_address [] = 0
first_address (part ∷ parts) = part.at

abbrev pub entry_address : Reading → Option Entry → ℕ
entry_address reading None = first_address reading.parts
entry_address reading (Some e) = unwrap_or (reading.labels e.name) 0

abbrev pub image_of : Reading → Image
image_of reading = record {
  entry = entry_address reading reading.entry;
  segments = map (segment_for reading.labels) reading.parts;
}

abbrev pub image_if_valid : Reading → Option Image
image_if_valid reading =
    if is_valid (image_of reading) then Some (image_of reading) else None

-- the address, if it is below 2 ^ 64
abbrev pub low_address : ℕ → Option ℕ
low_address address = if nat_lt address (2 ^ 64) then Some address else None
