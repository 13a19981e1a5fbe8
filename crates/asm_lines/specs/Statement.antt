-- What a line says, from its text alone, or its first fault. The order of faults within a line is
-- the order in which a meaning asks: the name of the line, its shape, its registers, its numbers,
-- their ranges.
use Rattle.std.specs.Prelude.{ℕ, ◌-◌, ◌%◌, ◌^◌, ◌==◌, nat_le}
use Rattle.std.specs.Prelude.{Bool, true, false, not, ◌&&◌, ◌||◌, if◌then◌else◌, bytes_eq}
use Rattle.std.specs.Prelude.{ℤ, pos, negsuc, int_le, unsigned_abs, codes, ok_or}
use Rattle.std.specs.Prelude.{List, length, take, slice_index}
use Rattle.std.specs.Prelude.{Option, Some, None, option_map, Result, Ok, Err}
use Rattle.std.specs.List.{list_all}
use Rattle.instruction_model.specs.InstructionWord.{word_of}
use Rattle.instruction_model.specs.Word.{modulo_two_to}
use Rattle.instruction_model.specs.declared.instruction.BranchOp.{BranchOp}
use Rattle.instruction_model.specs.declared.instruction.ImmOp.{ImmOp}
use Rattle.instruction_model.specs.declared.instruction.ImmOp.TheVariants.{Addi, Slti, Sltiu, Xori}
use Rattle.instruction_model.specs.declared.instruction.ImmOp.TheVariants.{Ori, Andi, Slli, Srli}
use Rattle.instruction_model.specs.declared.instruction.ImmOp.TheVariants.{Srai}
use Rattle.instruction_model.specs.declared.instruction.ImmWOp.{ImmWOp}
use Rattle.instruction_model.specs.declared.instruction.ImmWOp.TheVariants.{Addiw, Slliw, Srliw}
use Rattle.instruction_model.specs.declared.instruction.ImmWOp.TheVariants.{Sraiw}
use Rattle.instruction_model.specs.declared.instruction.Inst.{Inst}
use Rattle.instruction_model.specs.declared.instruction.Inst.TheVariants as inst
use Rattle.asm_words.specs.Named.{branch_named, load_named, store_named, imm_named, reg_named}
use Rattle.asm_words.specs.Named.{imm_w_named, reg_w_named}
use Rattle.asm_words.specs.Numbers.{is_decimal_digit, number}
use Rattle.asm_words.specs.Registers.{register}
use Rattle.asm_words.specs.Text.{content, is_blank, first_word, behind_word, one_word}
use Rattle.asm_words.specs.Text.{two_operands, three_operands, address_operands, is_address}
use Rattle.asm_words.specs.Text.{before_open, inner_register}
use Rattle.asm_lines.specs.declared.fault.AsmKind.{AsmKind}
use Rattle.asm_lines.specs.declared.fault.AsmKind.TheVariants.{BadShape, UnknownName, BadNumber}
use Rattle.asm_lines.specs.declared.fault.AsmKind.TheVariants.{OutOfRange}
use Rattle.asm_lines.specs.declared.mnemonic.Directive.{Directive}
use Rattle.asm_lines.specs.declared.mnemonic.Directive.TheVariants as directives
use Rattle.asm_lines.specs.declared.mnemonic.Mnemonic.{Mnemonic}
use Rattle.asm_lines.specs.declared.mnemonic.Mnemonic.TheVariants as mnemonics

-- ---- what lines say

pub data Statement : Type 0 where
  -- an empty line
  Nothing : Statement
  -- the address here has a name
  Label : List ℕ → Statement
  -- a segment begins
  Segment : (at flags size : ℕ) → Statement
  -- the program begins at the label
  Entry : List ℕ → Statement
  -- four bytes, the lowest first: a number, or an instruction
  Word : ℕ → Statement
  Byte : ℕ → Statement
  Zeros : ℕ → Statement
  -- four bytes: an instruction to a label
  BranchTo : BranchOp → (rs1 rs2 : ℕ) → List ℕ → Statement
  JumpTo : (rd : ℕ) → List ℕ → Statement

-- what follows a value, unless there was a fault
abbrev pub and_then : {X Y : Type 0} → Result X AsmKind → (X → Result Y AsmKind) → Result Y AsmKind
and_then (Ok x) next = next x
and_then (Err fault) next = Err fault

-- ---- names of labels

abbrev pub is_letter : ℕ → Bool
is_letter b = nat_le 97 b && nat_le b 122 || nat_le 65 b && nat_le b 90 || b == 95

abbrev pub is_name_byte : ℕ → Bool
is_name_byte b = is_letter b || is_decimal_digit b

-- letters, digits and `_`, and no digit in front
abbrev pub is_name : List ℕ → Bool
is_name word = list_all is_name_byte word && is_letter (slice_index word 0)

-- ---- the meaning of operands

abbrev pub register_of : List ℕ → Result ℕ AsmKind
register_of word = ok_or (register word) UnknownName

abbrev pub number_of : List ℕ → Result ℤ AsmKind
number_of word = ok_or (number word) BadNumber

-- a number of a range, with both its ends
abbrev pub ranged : (low high : ℤ) → ℤ → Result ℤ AsmKind
ranged low high z = if int_le low z && int_le z high then Ok z else Err OutOfRange

abbrev pub is_even : ℤ → Bool
is_even z = unsigned_abs z % 2 == 0

abbrev pub even : ℤ → Result ℤ AsmKind
even z = if is_even z then Ok z else Err OutOfRange

-- an even number of a range
abbrev pub ranged_even : (low high : ℤ) → ℤ → Result ℤ AsmKind
ranged_even low high z = and_then (ranged low high z) even

-- a number of a range
abbrev pub number_in : (low high : ℤ) → List ℕ → Result ℤ AsmKind
number_in low high word = and_then (number_of word) (ranged low high)

-- ---- instructions

-- the word of an instruction
abbrev pub word_said : Inst → Statement
word_said v = Word (word_of v)

-- `rd, rs1, rs2`
abbrev pub three_registers : List ℕ → Result (ℕ × ℕ × ℕ) AsmKind
three_registers text =
    and_then (ok_or (three_operands text) BadShape)
    (λ ws. and_then (register_of ws.0)
    (λ a. and_then (register_of ws.1)
    (λ b. and_then (register_of ws.2)
    (λ c. Ok (a, b, c)))))

-- `rd, rs1, n`
abbrev pub two_registers : (low high : ℤ) → List ℕ → Result (ℕ × ℕ × ℤ) AsmKind
two_registers low high text =
    and_then (ok_or (three_operands text) BadShape)
    (λ ws. and_then (register_of ws.0)
    (λ a. and_then (register_of ws.1)
    (λ b. and_then (number_in low high ws.2)
    (λ z. Ok (a, b, z)))))

-- `rd, n`
abbrev pub one_register : (low high : ℤ) → List ℕ → Result (ℕ × ℤ) AsmKind
one_register low high text =
    and_then (ok_or (two_operands text) BadShape)
    (λ ws. and_then (register_of ws.0)
    (λ a. and_then (number_in low high ws.1)
    (λ z. Ok (a, z))))

-- `r, imm(rs1)`, as the two registers and the number
abbrev pub address_in : (word rest : List ℕ) → Result (ℕ × ℕ × ℤ) AsmKind
address_in word rest =
    and_then (register_of word)
    (λ a. and_then (register_of (inner_register rest))
    (λ b. and_then (number_in (negsuc 2047) (pos 2047) (before_open rest))
    (λ z. Ok (a, b, z))))

abbrev pub register_and_address : List ℕ → Result (ℕ × ℕ × ℤ) AsmKind
register_and_address text =
    and_then (ok_or (address_operands text) BadShape)
    (λ ws. if is_address ws.1 then address_in ws.0 ws.1 else Err BadShape)

-- an even number of a range
abbrev pub even_number_in : (low high : ℤ) → List ℕ → Result ℤ AsmKind
even_number_in low high word = and_then (number_in low high word) even

-- the instruction to a label or by an offset
abbrev pub branch_to : BranchOp → (rs1 rs2 : ℕ) → List ℕ → Result Statement AsmKind
branch_to op a b to =
    if is_name to then Ok (BranchTo op a b to)
    else and_then (even_number_in (negsuc 4095) (pos 4095) to)
    (λ z. Ok (word_said (inst.Branch op a b z)))

abbrev pub jump_to : (rd : ℕ) → List ℕ → Result Statement AsmKind
jump_to a to =
    if is_name to then Ok (JumpTo a to)
    else and_then (even_number_in (negsuc 1048575) (pos 1048575) to)
    (λ z. Ok (word_said (inst.Jal a z)))

-- `rs1, rs2, to`
abbrev pub of_branch : BranchOp → List ℕ → Result Statement AsmKind
of_branch op text =
    and_then (ok_or (three_operands text) BadShape)
    (λ ws. and_then (register_of ws.0)
    (λ a. and_then (register_of ws.1)
    (λ b. branch_to op a b ws.2)))

-- `rd, to`
abbrev pub of_jump : List ℕ → Result Statement AsmKind
of_jump text =
    and_then (ok_or (two_operands text) BadShape)
    (λ ws. and_then (register_of ws.0)
    (λ a. jump_to a ws.1))

-- no operands
abbrev pub of_nothing : Inst → List ℕ → Result Statement AsmKind
of_nothing v text = if is_blank text then Ok (word_said v) else Err BadShape

-- a shift's amount is below the width, and another immediate has 12 bits
abbrev pub imm_low : ImmOp → ℤ
imm_low Addi = negsuc 2047
imm_low Slti = negsuc 2047
imm_low Sltiu = negsuc 2047
imm_low Xori = negsuc 2047
imm_low Ori = negsuc 2047
imm_low Andi = negsuc 2047
imm_low Slli = pos 0
imm_low Srli = pos 0
imm_low Srai = pos 0

abbrev pub imm_high : ImmOp → ℤ
imm_high Addi = pos 2047
imm_high Slti = pos 2047
imm_high Sltiu = pos 2047
imm_high Xori = pos 2047
imm_high Ori = pos 2047
imm_high Andi = pos 2047
imm_high Slli = pos 63
imm_high Srli = pos 63
imm_high Srai = pos 63

abbrev pub imm_w_low : ImmWOp → ℤ
imm_w_low Addiw = negsuc 2047
imm_w_low Slliw = pos 0
imm_w_low Srliw = pos 0
imm_w_low Sraiw = pos 0

abbrev pub imm_w_high : ImmWOp → ℤ
imm_w_high Addiw = pos 2047
imm_w_high Slliw = pos 31
imm_w_high Srliw = pos 31
imm_w_high Sraiw = pos 31

-- the instruction of what was read
abbrev pub of_parts : {X : Type 0} → (X → Inst) → Result X AsmKind → Result Statement AsmKind
of_parts make (Ok x) = Ok (word_said (make x))
of_parts make (Err fault) = Err fault

-- the meaning of an instruction's operands
abbrev pub instruction : Mnemonic → List ℕ → Result Statement AsmKind
instruction mnemonics.Lui text =
    of_parts (λ r. inst.Lui r.0 (unsigned_abs r.1)) (one_register (pos 0) (pos 1048575) text)
instruction mnemonics.Auipc text =
    of_parts (λ r. inst.Auipc r.0 (unsigned_abs r.1)) (one_register (pos 0) (pos 1048575) text)
instruction mnemonics.Jal text = of_jump text
instruction mnemonics.Jalr text =
    of_parts (λ r. inst.Jalr r.0 r.1 r.2) (register_and_address text)
instruction (mnemonics.Branch op) text = of_branch op text
instruction (mnemonics.Load op) text =
    of_parts (λ r. inst.Load op r.0 r.1 r.2) (register_and_address text)
instruction (mnemonics.Store op) text =
    of_parts (λ r. inst.Store op r.1 r.0 r.2) (register_and_address text)
instruction (mnemonics.OpImm op) text =
    of_parts (λ r. inst.OpImm op r.0 r.1 r.2) (two_registers (imm_low op) (imm_high op) text)
instruction (mnemonics.Op op) text =
    of_parts (λ r. inst.Op op r.0 r.1 r.2) (three_registers text)
instruction (mnemonics.OpImmW op) text =
    of_parts (λ r. inst.OpImmW op r.0 r.1 r.2)
    (two_registers (imm_w_low op) (imm_w_high op) text)
instruction (mnemonics.OpW op) text =
    of_parts (λ r. inst.OpW op r.0 r.1 r.2) (three_registers text)
instruction mnemonics.Fence text =
    of_parts (λ r. inst.Fence r.0 r.1 (unsigned_abs r.2))
    (two_registers (pos 0) (pos 4095) text)
instruction mnemonics.Ecall text = of_nothing inst.Ecall text
instruction mnemonics.Ebreak text = of_nothing inst.Ebreak text

-- the first of two, where there is one
abbrev pub or_else : {X : Type 0} → Option X → Option X → Option X
or_else (Some x) other = Some x
or_else None other = other

-- the mnemonics that stand for one instruction only
abbrev pub single_mnemonic : List ℕ → Option Mnemonic
single_mnemonic word =
    if bytes_eq word (codes "lui") then Some mnemonics.Lui
    else if bytes_eq word (codes "auipc") then Some mnemonics.Auipc
    else if bytes_eq word (codes "jal") then Some mnemonics.Jal
    else if bytes_eq word (codes "jalr") then Some mnemonics.Jalr
    else if bytes_eq word (codes "fence") then Some mnemonics.Fence
    else if bytes_eq word (codes "ecall") then Some mnemonics.Ecall
    else if bytes_eq word (codes "ebreak") then Some mnemonics.Ebreak
    else None

-- the mnemonic that the word is, or none
abbrev pub mnemonic : List ℕ → Option Mnemonic
mnemonic word =
    or_else (single_mnemonic word)
    (or_else (option_map (λ op. mnemonics.Branch op) (branch_named word))
    (or_else (option_map (λ op. mnemonics.Load op) (load_named word))
    (or_else (option_map (λ op. mnemonics.Store op) (store_named word))
    (or_else (option_map (λ op. mnemonics.OpImm op) (imm_named word))
    (or_else (option_map (λ op. mnemonics.Op op) (reg_named word))
    (or_else (option_map (λ op. mnemonics.OpImmW op) (imm_w_named word))
    (option_map (λ op. mnemonics.OpW op) (reg_w_named word))))))))

-- ---- directives

abbrev pub directive : List ℕ → Option Directive
directive word =
    if bytes_eq word (codes ".segment") then Some directives.Segment
    else if bytes_eq word (codes ".entry") then Some directives.Entry
    else if bytes_eq word (codes ".word") then Some directives.Word
    else if bytes_eq word (codes ".byte") then Some directives.Byte
    else if bytes_eq word (codes ".zero") then Some directives.Zero
    else None

-- letters of `rwx` in this order: 4 read, 2 write, 1 execute, added
abbrev pub flags : List ℕ → Option ℕ
flags word =
    if bytes_eq word (codes "x") then Some 1 else if bytes_eq word (codes "w") then Some 2
    else if bytes_eq word (codes "wx") then Some 3 else if bytes_eq word (codes "r") then Some 4
    else if bytes_eq word (codes "rx") then Some 5 else if bytes_eq word (codes "rw") then Some 6
    else if bytes_eq word (codes "rwx") then Some 7 else None

-- three words, and no more
abbrev pub has_three_words : List ℕ → Bool
has_three_words text =
    not (is_blank text) && not (is_blank (behind_word text))
    && not (is_blank (behind_word (behind_word text)))
    && is_blank (behind_word (behind_word (behind_word text)))

-- an address is below 2 ^ 64, and so is a size, which isn't 0
abbrev pub segment_at : (flags : ℕ) (at size : ℤ) → Result Statement AsmKind
segment_at f a n =
    and_then (ranged (pos 0) (pos (2 ^ 64 - 1)) a)
    (λ at. and_then (ranged (pos 1) (pos (2 ^ 64 - 1)) n)
    (λ size. Ok (Segment (unsigned_abs at) f (unsigned_abs size))))

-- the same, of words
abbrev pub segment_with : (flags : ℕ) (at size : List ℕ) → Result Statement AsmKind
segment_with f at size =
    and_then (number_of at) (λ a. and_then (number_of size) (λ n. segment_at f a n))

-- `ADDRESS FLAGS SIZE`
abbrev pub of_segment : List ℕ → Result Statement AsmKind
of_segment text =
    if has_three_words text
    then and_then (ok_or (flags (first_word (behind_word text))) BadShape)
    (λ f. segment_with f (first_word text) (first_word (behind_word (behind_word text))))
    else Err BadShape

-- `NAME`
abbrev pub of_entry : List ℕ → Result Statement AsmKind
of_entry text =
    and_then (ok_or (one_word text) BadShape)
    (λ w. if is_name w then Ok (Entry w) else Err BadShape)

-- `N`
abbrev pub only_number : (low high : ℤ) → List ℕ → Result ℤ AsmKind
only_number low high text = and_then (ok_or (one_word text) BadShape) (number_in low high)

abbrev pub of_number : (ℤ → Statement) → Result ℤ AsmKind → Result Statement AsmKind
of_number make (Ok z) = Ok (make z)
of_number make (Err fault) = Err fault

-- The meaning of a directive's operands. No segment has room for 2 ^ 64 zeros.
abbrev pub directive_meaning : Directive → List ℕ → Result Statement AsmKind
directive_meaning directives.Segment text = of_segment text
directive_meaning directives.Entry text = of_entry text
directive_meaning directives.Word text =
    of_number (λ z. Word (modulo_two_to 32 z))
    (only_number (negsuc (2 ^ 31 - 1)) (pos (2 ^ 32 - 1)) text)
directive_meaning directives.Byte text =
    of_number (λ z. Byte (modulo_two_to 8 z)) (only_number (negsuc 127) (pos 255) text)
directive_meaning directives.Zero text =
    of_number (λ z. Zeros (unsigned_abs z)) (only_number (pos 0) (pos (2 ^ 64 - 1)) text)

-- data stand in a segment
abbrev pub stands_in_segment : Directive → Bool
stands_in_segment directives.Segment = false
stands_in_segment directives.Entry = false
stands_in_segment directives.Word = true
stands_in_segment directives.Byte = true
stands_in_segment directives.Zero = true

-- ---- lines

-- the only word of the line, where a colon ends it
abbrev pub is_label : Option (List ℕ) → Bool
is_label None = false
is_label (Some word) = slice_index word (length word - 1) == 58

-- `NAME:`
abbrev pub of_label : List ℕ → Result Statement AsmKind
of_label word =
    if is_name (take (length word - 1) word) then Ok (Label (take (length word - 1) word))
    else Err BadShape

-- what must stand in a segment, within one or not
abbrev pub within : Bool → Result Statement AsmKind → Result Statement AsmKind
within inside meaning = if inside then meaning else Err BadShape

abbrev pub of_mnemonic : (inside : Bool) → Option Mnemonic → List ℕ → Result Statement AsmKind
of_mnemonic inside None text = Err UnknownName
of_mnemonic inside (Some m) text = within inside (instruction m text)

abbrev pub of_directive : (inside : Bool) → Option Directive → (word text : List ℕ)
    → Result Statement AsmKind
of_directive inside None word text = of_mnemonic inside (mnemonic word) text
of_directive inside (Some d) word text =
    within (inside || not (stands_in_segment d)) (directive_meaning d text)

-- the meaning of a line without its comment, within a segment or not
abbrev pub meaning : (inside : Bool) → List ℕ → Result Statement AsmKind
meaning inside text =
    if is_blank text then Ok Nothing
    else if is_label (one_word text) then within inside (of_label (first_word text))
    else of_directive inside (directive (first_word text)) (first_word text) (behind_word text)

abbrev pub statement : (inside : Bool) → List ℕ → Result Statement AsmKind
statement inside line = meaning inside (content line)
