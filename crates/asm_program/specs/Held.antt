-- What the code holds of a program, as the definition has it.
use Rattle.std.specs.Prelude.{◌≡◌, ℕ, ◌+◌, ◌^◌, bytes_eq, List, map}
use Rattle.std.specs.Prelude.{Option, Some, None, option_map, Result, Ok, Err}
use Rattle.std.specs.HashMap.{get_by}
use Rattle.asm_lines.specs.Said.{said_data}
use Rattle.asm_lines.specs.declared.fault.AsmKind.{AsmKind}
use Rattle.asm_program.specs.Program.{Piece, Part, Entry, Program}
use Rattle.asm_program.specs.declared.labels.Labels.{Labels}
use Rattle.asm_program.specs.declared.part.Part.{Part as HeldPart}
use Rattle.asm_program.specs.declared.piece.Piece.{Piece as HeldPiece}
use Rattle.asm_program.specs.declared.program.Entry.{Entry as HeldEntry}
use Rattle.asm_program.specs.declared.program.Program.{Program as HeldProgram}
use Rattle.asm_program.specs.declared.reading.LineFault.{LineFault as HeldFault}
use Rattle.asm_program.specs.declared.reading.Reading.{Reading as HeldReading}
use Rattle.asm_program.specs.Reading.{LineFault, Reading}

abbrev pub piece_of : (at : ℕ) → HeldPiece → Piece
piece_of at p = record { line = p.line; address = at + p.offset; says = said_data p.says }

abbrev pub part_of : HeldPart → Part
part_of p = record {
  at = p.at;
  flags = p.flags;
  size = p.size;
  end = p.at + p.used;
  pieces = map (piece_of p.at) p.pieces.items;
}

-- the address of a label that lies so much above 2 ^ 64
abbrev pub high_address : Option ℕ → Option ℕ
high_address over = option_map (λ n. 2 ^ 64 + n) over

-- the address of a label that is among those below 2 ^ 64, or among the others
abbrev pub address_among : (low over : Option ℕ) → Option ℕ
address_among (Some address) over = Some address
address_among None over = high_address over

abbrev pub labels_of : Labels → List ℕ → Option ℕ
labels_of l name = address_among (get_by (λ k. bytes_eq name k.now) l.low)
    (get_by (λ k. bytes_eq name k.now) l.high)

abbrev pub entry_of : HeldEntry → Entry
entry_of e = record { line = e.line; name = e.name.now }

abbrev pub program_of : HeldProgram → Program
program_of p = record {
  done = map part_of p.done.items;
  last = option_map part_of p.last;
  labels = labels_of p.labels;
  entry = option_map entry_of p.entry;
}

abbrev pub fault_of : HeldFault → LineFault
fault_of f = record { line = f.line; kind = f.kind }

abbrev pub reading_of : HeldReading → Reading
reading_of r = record {
  parts = map part_of r.parts.items;
  labels = labels_of r.labels;
  entry = option_map entry_of r.entry;
  fault = option_map fault_of r.fault;
}

-- something became another as it was meant to, or was refused for the cause and stayed
abbrev pub Makes : {X : Type 0} → Result X AsmKind → Option AsmKind → (old new : X) → Type 0
Makes meant None old new = meant ≡ Ok new
Makes meant (Some kind) old new = (meant ≡ Err kind) × (new ≡ old)
