-- The line of each instruction says its word.
use Rattle.std.proofs.Common.{◌≡◌, ℕ, suc, ◌%◌, ◌^◌, ◌<◌, ◌≤◌, Bool, true, false, ◌&&◌, List, [], ◌∷◌, ◌++◌}
use Rattle.std.proofs.Common.{Result, Ok, Err, ℤ, pos, negsuc, ◌≤ℤ◌, refl, ap, sym, ◌∙◌, ok_or, codes, arith}
use Rattle.std.specs.Prelude.{◌==◌, if◌then◌else◌, unsigned_abs}
use Rattle.std.specs.List.{list_all}
use Rattle.std.specs.Fmt.{decimal, signed_decimal}
use Rattle.std.proofs.lemmas.Bool.Decides.{nat_tests}
use Rattle.std.proofs.lemmas.Int.{ints}
use Rattle.std.proofs.lemmas.Fmt.{decimal_is_IsNumeral}
use Rattle.std.specs.Str.Parse.{AllDigits}
use Rattle.asm_laws.proofs.Spelled.{decimal_range}
use lib.Signed.{mag}
use Rattle.instruction_model.specs.InstructionWord.{IsWordOf, word_of, IsImm, IsImmW}
use Rattle.instruction_model.specs.declared.instruction.BranchOp.{BranchOp}
use Rattle.instruction_model.specs.declared.instruction.ImmOp.{ImmOp}
use Rattle.instruction_model.specs.declared.instruction.ImmOp.TheVariants.{Addi, Slti, Sltiu, Xori, Ori, Andi, Slli, Srli, Srai}
use Rattle.instruction_model.specs.declared.instruction.ImmWOp.{ImmWOp}
use Rattle.instruction_model.specs.declared.instruction.ImmWOp.TheVariants.{Addiw, Slliw, Srliw, Sraiw}
use Rattle.instruction_model.specs.declared.instruction.Inst.{Inst}
use Rattle.instruction_model.specs.declared.instruction.Inst.TheVariants as inst
use Rattle.asm_words.specs.Names.{branch_name, load_name, store_name, imm_name, reg_name, imm_w_name, reg_w_name}
use Rattle.asm_lines.specs.Statement.{Statement, Word, and_then, statement, instruction, is_name, is_letter, is_name_byte, branch_to, jump_to, register_of, BranchTo, JumpTo, of_branch, of_jump}
use Rattle.asm_lines.specs.Statement.{even_number_in, even, word_said, imm_low, imm_high, imm_w_low, imm_w_high, of_parts}
use Rattle.asm_lines.specs.declared.fault.AsmKind.{AsmKind}
use Rattle.asm_lines.specs.declared.fault.AsmKind.TheVariants.{BadShape, OutOfRange}
use Rattle.asm_lines.specs.declared.mnemonic.Mnemonic.{Mnemonic}
use Rattle.asm_lines.specs.declared.mnemonic.Mnemonic.TheVariants as mnemonics
use Rattle.asm_laws.proofs.Addresses.{address_word, address_read, hash_address}
use Rattle.asm_laws.proofs.Lines.{line_read, register_above, register_read, signed_above, number_in_read}
use Rattle.asm_laws.proofs.Mnemonics.{IsMnemonic, lui_is, auipc_is, jal_is, jalr_is, fence_is, branch_is, load_is, store_is, imm_is, reg_is, imm_w_is, reg_w_is}
use Rattle.asm_laws.proofs.Shapes.{register_word, NoHash, hash_above, hash_between, one_register_read, two_registers_read, three_registers_read}
use Rattle.asm_laws.proofs.Shapes.{first_plain, next_plain, number_plain}
use Rattle.asm_laws.proofs.Words.{two_found, three_found}
use Rattle.rv_asm.specs.Disassembly.{instruction_text}

-- ---- the texts of operands

abbrev pub one_text : ℕ → ℤ → List ℕ
one_text a z = register_word a ++ (44 ∷ (32 ∷ signed_decimal z))

abbrev pub two_text : ℕ → ℕ → ℤ → List ℕ
two_text a b z = register_word a ++ (44 ∷ ((32 ∷ register_word b) ++ (44 ∷ (32 ∷ signed_decimal z))))

abbrev pub three_text : ℕ → ℕ → ℕ → List ℕ
three_text a b c = register_word a ++ (44 ∷ ((32 ∷ register_word b) ++ (44 ∷ (32 ∷ register_word c))))

abbrev pub at_text : ℕ → ℤ → ℕ → List ℕ
at_text a z b = register_word a ++ (44 ∷ (32 ∷ address_word z b))

one_hash : (a : ℕ) (z : ℤ) → a < 32 → mag z < 2 ^ 63 → NoHash (one_text a z)
one_hash a z ha hz = hash_between (register_word a) (signed_decimal z) (register_above a ha) (hash_above (signed_decimal z) (signed_above z hz))

two_hash : (a b : ℕ) (z : ℤ) → a < 32 → b < 32 → mag z < 2 ^ 63 → NoHash (two_text a b z)
two_hash a b z ha hb hz =
    hash_between (register_word a) (one_text b z) (register_above a ha) (one_hash b z hb hz)

three_hash : (a b c : ℕ) → a < 32 → b < 32 → c < 32 → NoHash (three_text a b c)
three_hash a b c ha hb hc =
    hash_between (register_word a) (register_word b ++ (44 ∷ (32 ∷ register_word c))) (register_above a ha)
    (hash_between (register_word b) (register_word c) (register_above b hb) (hash_above (register_word c) (register_above c hc)))

at_hash : (a : ℕ) (z : ℤ) (b : ℕ) → a < 32 → mag z < 2 ^ 63 → b < 32 → NoHash (at_text a z b)
at_hash a z b ha hz hb = hash_between (register_word a) (address_word z b) (register_above a ha) (hash_address z b hz hb)

-- ---- lines of each shape

line_of_one : (name : List ℕ) (m : Mnemonic) (a : ℕ) (z : ℤ) → IsMnemonic name m → a < 32 → mag z < 2 ^ 63 → statement true (name ++ (32 ∷ one_text a z)) ≡ instruction m (one_text a z)
line_of_one name m a z is ha hz = line_read name (one_text a z) m is (one_hash a z ha hz) refl

line_of_two : (name : List ℕ) (m : Mnemonic) (a b : ℕ) (z : ℤ) → IsMnemonic name m → a < 32 → b < 32 → mag z < 2 ^ 63 → statement true (name ++ (32 ∷ two_text a b z)) ≡ instruction m (two_text a b z)
line_of_two name m a b z is ha hb hz = line_read name (two_text a b z) m is (two_hash a b z ha hb hz) refl

line_of_three : (name : List ℕ) (m : Mnemonic) (a b c : ℕ) → IsMnemonic name m → a < 32 → b < 32 → c < 32 → statement true (name ++ (32 ∷ three_text a b c)) ≡ instruction m (three_text a b c)
line_of_three name m a b c is ha hb hc = line_read name (three_text a b c) m is (three_hash a b c ha hb hc) refl

line_of_at : (name : List ℕ) (m : Mnemonic) (a : ℕ) (z : ℤ) (b : ℕ) → IsMnemonic name m → a < 32 → mag z < 2 ^ 63 → b < 32 → statement true (name ++ (32 ∷ at_text a z b)) ≡ instruction m (at_text a z b)
line_of_at name m a z b is ha hz hb = line_read name (at_text a z b) m is (at_hash a z b ha hz hb) refl

-- ---- ranges

mag_small : (z : ℤ) → negsuc (2 ^ 32) ≤ℤ z → z ≤ℤ pos (2 ^ 32) → mag z < 2 ^ 63
mag_small (pos n) lower upper = omega (arith, ints)
mag_small (negsuc n) lower upper = omega (arith, ints)

imm_range : (op : ImmOp) (z : ℤ) → IsImm op z → (imm_low op ≤ℤ z) × (z ≤ℤ imm_high op)
imm_range Addi z h = (h.0, h.1)
imm_range Slti z h = (h.0, h.1)
imm_range Sltiu z h = (h.0, h.1)
imm_range Xori z h = (h.0, h.1)
imm_range Ori z h = (h.0, h.1)
imm_range Andi z h = (h.0, h.1)
imm_range Slli z h = (h.0, h.1)
imm_range Srli z h = (h.0, h.1)
imm_range Srai z h = (h.0, h.1)

imm_small : (op : ImmOp) (z : ℤ) → IsImm op z → mag z < 2 ^ 63
imm_small Addi z h = mag_small z (omega (arith, ints, h.0)) (omega (arith, ints, h.1))
imm_small Slti z h = mag_small z (omega (arith, ints, h.0)) (omega (arith, ints, h.1))
imm_small Sltiu z h = mag_small z (omega (arith, ints, h.0)) (omega (arith, ints, h.1))
imm_small Xori z h = mag_small z (omega (arith, ints, h.0)) (omega (arith, ints, h.1))
imm_small Ori z h = mag_small z (omega (arith, ints, h.0)) (omega (arith, ints, h.1))
imm_small Andi z h = mag_small z (omega (arith, ints, h.0)) (omega (arith, ints, h.1))
imm_small Slli z h = mag_small z (omega (arith, ints, h.0)) (omega (arith, ints, h.1))
imm_small Srli z h = mag_small z (omega (arith, ints, h.0)) (omega (arith, ints, h.1))
imm_small Srai z h = mag_small z (omega (arith, ints, h.0)) (omega (arith, ints, h.1))

imm_w_range : (op : ImmWOp) (z : ℤ) → IsImmW op z → (imm_w_low op ≤ℤ z) × (z ≤ℤ imm_w_high op)
imm_w_range Addiw z h = (h.0, h.1)
imm_w_range Slliw z h = (h.0, h.1)
imm_w_range Srliw z h = (h.0, h.1)
imm_w_range Sraiw z h = (h.0, h.1)

imm_w_small : (op : ImmWOp) (z : ℤ) → IsImmW op z → mag z < 2 ^ 63
imm_w_small Addiw z h = mag_small z (omega (arith, ints, h.0)) (omega (arith, ints, h.1))
imm_w_small Slliw z h = mag_small z (omega (arith, ints, h.0)) (omega (arith, ints, h.1))
imm_w_small Srliw z h = mag_small z (omega (arith, ints, h.0)) (omega (arith, ints, h.1))
imm_w_small Sraiw z h = mag_small z (omega (arith, ints, h.0)) (omega (arith, ints, h.1))

-- ---- offsets are no names

and_no : (b c : Bool) → c ≡ false → (b && c) ≡ false
and_no true c e = e
and_no false c e = refl

no_letter : (d : ℕ) → 45 ≤ d → d ≤ 57 → is_letter d ≡ false
no_letter d low high = grind (arith, nat_tests)

no_name_of_digits : (ds : List ℕ) → AllDigits 10 ds → is_name ds ≡ false
no_name_of_digits [] h = refl
no_name_of_digits (c ∷ cs) h =
    let r = decimal_range c h.0 in
    and_no (list_all is_name_byte (c ∷ cs)) (is_letter c) (no_letter c (omega arith) (omega arith))

no_name : (z : ℤ) → mag z < 2 ^ 63 → is_name (signed_decimal z) ≡ false
no_name (pos n) h = let small : n < 2 ^ 64 = omega arith in no_name_of_digits (decimal n) (decimal_is_IsNumeral n small).0.1
no_name (negsuc n) h = and_no (list_all is_name_byte (45 ∷ decimal (suc n))) false refl

even_is : (z : ℤ) → unsigned_abs z % 2 ≡ 0 → even z ≡ Ok z
even_is z h = ap (λ n. if n == 0 then Ok z else Err OutOfRange) h

even_read : (low high z : ℤ) → mag z < 2 ^ 63 → low ≤ℤ z → z ≤ℤ high → unsigned_abs z % 2 ≡ 0 → even_number_in low high (signed_decimal z) ≡ Ok z
even_read low high z h lower upper halves = ap (λ r. and_then r even) (number_in_read low high z h lower upper) ∙ even_is z halves

branch_chosen : (named : Bool) (r : Result ℤ AsmKind) (op : BranchOp) (a b : ℕ) (to : List ℕ) (z : ℤ) → named ≡ false → r ≡ Ok z → (if named then Ok (BranchTo op a b to) else and_then r (λ x. Ok (word_said (inst.Branch op a b x)))) ≡ Ok (word_said (inst.Branch op a b z))
branch_chosen named r op a b to z not_named is =
    ap (λ n. if n then Ok (BranchTo op a b to) else and_then r (λ x. Ok (word_said (inst.Branch op a b x)))) not_named
    ∙ ap (λ s. and_then s (λ x. Ok (word_said (inst.Branch op a b x)))) is

jump_chosen : (named : Bool) (r : Result ℤ AsmKind) (a : ℕ) (to : List ℕ) (z : ℤ) → named ≡ false → r ≡ Ok z → (if named then Ok (JumpTo a to) else and_then r (λ x. Ok (word_said (inst.Jal a x)))) ≡ Ok (word_said (inst.Jal a z))
jump_chosen named r a to z not_named is =
    ap (λ n. if n then Ok (JumpTo a to) else and_then r (λ x. Ok (word_said (inst.Jal a x)))) not_named
    ∙ ap (λ s. and_then s (λ x. Ok (word_said (inst.Jal a x)))) is

branch_read : (op : BranchOp) (a b : ℕ) (z : ℤ) → a < 32 → b < 32 → mag z < 2 ^ 63 → negsuc 4095 ≤ℤ z → z ≤ℤ pos 4095 → unsigned_abs z % 2 ≡ 0 → of_branch op (two_text a b z) ≡ Ok (word_said (inst.Branch op a b z))
branch_read op a b z ha hb h lower upper halves =
    let v = register_word a in
    let w = register_word b in
    let x = signed_decimal z in
    ap (λ o. and_then (ok_or o BadShape) (λ ws. and_then (register_of ws.0) (λ c. and_then (register_of ws.1) (λ d. branch_to op c d ws.2))))
    (three_found v (32 ∷ w) (32 ∷ x) v w x (first_plain a ha) (next_plain b hb) (number_plain z h))
    ∙ (ap (λ r. and_then r (λ c. and_then (register_of w) (λ d. branch_to op c d x))) (register_read a ha)
    ∙ (ap (λ r. and_then r (λ d. branch_to op a d x)) (register_read b hb)
    ∙ branch_chosen (is_name x) (even_number_in (negsuc 4095) (pos 4095) x) op a b x z (no_name z h) (even_read (negsuc 4095) (pos 4095) z h lower upper halves)))

jump_read : (a : ℕ) (z : ℤ) → a < 32 → mag z < 2 ^ 63 → negsuc 1048575 ≤ℤ z → z ≤ℤ pos 1048575 → unsigned_abs z % 2 ≡ 0 → of_jump (one_text a z) ≡ Ok (word_said (inst.Jal a z))
jump_read a z ha h lower upper halves =
    let v = register_word a in
    let x = signed_decimal z in
    ap (λ o. and_then (ok_or o BadShape) (λ ws. and_then (register_of ws.0) (λ c. jump_to c ws.1)))
    (two_found v (32 ∷ x) v x (first_plain a ha) (number_plain z h))
    ∙ (ap (λ r. and_then r (λ c. jump_to c x)) (register_read a ha)
    ∙ jump_chosen (is_name x) (even_number_in (negsuc 1048575) (pos 1048575) x) a x z (no_name z h) (even_read (negsuc 1048575) (pos 1048575) z h lower upper halves))

-- ---- each instruction

said_word : (w : ℕ) (v : Inst) → w ≡ word_of v → ◌≡◌ {A = Result Statement AsmKind} (Ok (word_said v)) (Ok (Word w))
said_word w v e = ap (λ n. Ok (Word n)) (sym e)

-- the line of an instruction says its word
pub instruction_read : (w : ℕ) (v : Inst) → IsWordOf w v → statement true (instruction_text v) ≡ Ok (Word w)
instruction_read w (inst.Lui rd n) h =
    let small : mag (pos n) < 2 ^ 63 = omega (arith, h.0.1) in
    line_of_one (codes "lui") mnemonics.Lui rd (pos n) lui_is h.0.0 small
    ∙ (ap (of_parts (λ r. inst.Lui r.0 (unsigned_abs r.1)))
    (one_register_read (pos 0) (pos 1048575) rd (pos n) h.0.0 small (omega (arith, ints)) (omega (arith, ints, h.0.1)))
    ∙ said_word w (inst.Lui rd n) h.1)
instruction_read w (inst.Auipc rd n) h =
    let small : mag (pos n) < 2 ^ 63 = omega (arith, h.0.1) in
    line_of_one (codes "auipc") mnemonics.Auipc rd (pos n) auipc_is h.0.0 small
    ∙ (ap (of_parts (λ r. inst.Auipc r.0 (unsigned_abs r.1)))
    (one_register_read (pos 0) (pos 1048575) rd (pos n) h.0.0 small (omega (arith, ints)) (omega (arith, ints, h.0.1)))
    ∙ said_word w (inst.Auipc rd n) h.1)
instruction_read w (inst.Jal rd z) h =
    let low = h.0.1.0.0 in
    let high = h.0.1.0.1 in
    let small = mag_small z (omega (arith, ints, low)) (omega (arith, ints, high)) in
    line_of_one (codes "jal") mnemonics.Jal rd z jal_is h.0.0 small
    ∙ (jump_read rd z h.0.0 small low high h.0.1.1 ∙ said_word w (inst.Jal rd z) h.1)
instruction_read w (inst.Jalr rd rs1 z) h =
    let small = mag_small z (omega (arith, ints, h.0.2.0)) (omega (arith, ints, h.0.2.1)) in
    line_of_at (codes "jalr") mnemonics.Jalr rd z rs1 jalr_is h.0.0 small h.0.1
    ∙ (ap (of_parts (λ r. inst.Jalr r.0 r.1 r.2)) (address_read rd z rs1 h.0.0 small h.0.2.0 h.0.2.1 h.0.1)
    ∙ said_word w (inst.Jalr rd rs1 z) h.1)
instruction_read w (inst.Branch op rs1 rs2 z) h =
    let low = h.0.2.0.0 in
    let high = h.0.2.0.1 in
    let small = mag_small z (omega (arith, ints, low)) (omega (arith, ints, high)) in
    line_of_two (branch_name op) (mnemonics.Branch op) rs1 rs2 z (branch_is op) h.0.0 h.0.1 small
    ∙ (branch_read op rs1 rs2 z h.0.0 h.0.1 small low high h.0.2.1 ∙ said_word w (inst.Branch op rs1 rs2 z) h.1)
instruction_read w (inst.Load op rd rs1 z) h =
    let small = mag_small z (omega (arith, ints, h.0.2.0)) (omega (arith, ints, h.0.2.1)) in
    line_of_at (load_name op) (mnemonics.Load op) rd z rs1 (load_is op) h.0.0 small h.0.1
    ∙ (ap (of_parts (λ r. inst.Load op r.0 r.1 r.2)) (address_read rd z rs1 h.0.0 small h.0.2.0 h.0.2.1 h.0.1)
    ∙ said_word w (inst.Load op rd rs1 z) h.1)
instruction_read w (inst.Store op rs1 rs2 z) h =
    let small = mag_small z (omega (arith, ints, h.0.2.0)) (omega (arith, ints, h.0.2.1)) in
    line_of_at (store_name op) (mnemonics.Store op) rs2 z rs1 (store_is op) h.0.1 small h.0.0
    ∙ (ap (of_parts (λ r. inst.Store op r.1 r.0 r.2)) (address_read rs2 z rs1 h.0.1 small h.0.2.0 h.0.2.1 h.0.0)
    ∙ said_word w (inst.Store op rs1 rs2 z) h.1)
instruction_read w (inst.OpImm op rd rs1 z) h =
    let small = imm_small op z h.0.2 in
    let range = imm_range op z h.0.2 in
    line_of_two (imm_name op) (mnemonics.OpImm op) rd rs1 z (imm_is op) h.0.0 h.0.1 small
    ∙ (ap (of_parts (λ r. inst.OpImm op r.0 r.1 r.2)) (two_registers_read (imm_low op) (imm_high op) rd rs1 z h.0.0 h.0.1 small range.0 range.1)
    ∙ said_word w (inst.OpImm op rd rs1 z) h.1)
instruction_read w (inst.Op op rd rs1 rs2) h =
    line_of_three (reg_name op) (mnemonics.Op op) rd rs1 rs2 (reg_is op) h.0.0 h.0.1 h.0.2
    ∙ (ap (of_parts (λ r. inst.Op op r.0 r.1 r.2)) (three_registers_read rd rs1 rs2 h.0.0 h.0.1 h.0.2)
    ∙ said_word w (inst.Op op rd rs1 rs2) h.1)
instruction_read w (inst.OpImmW op rd rs1 z) h =
    let small = imm_w_small op z h.0.2 in
    let range = imm_w_range op z h.0.2 in
    line_of_two (imm_w_name op) (mnemonics.OpImmW op) rd rs1 z (imm_w_is op) h.0.0 h.0.1 small
    ∙ (ap (of_parts (λ r. inst.OpImmW op r.0 r.1 r.2)) (two_registers_read (imm_w_low op) (imm_w_high op) rd rs1 z h.0.0 h.0.1 small range.0 range.1)
    ∙ said_word w (inst.OpImmW op rd rs1 z) h.1)
instruction_read w (inst.OpW op rd rs1 rs2) h =
    line_of_three (reg_w_name op) (mnemonics.OpW op) rd rs1 rs2 (reg_w_is op) h.0.0 h.0.1 h.0.2
    ∙ (ap (of_parts (λ r. inst.OpW op r.0 r.1 r.2)) (three_registers_read rd rs1 rs2 h.0.0 h.0.1 h.0.2)
    ∙ said_word w (inst.OpW op rd rs1 rs2) h.1)
instruction_read w (inst.Fence rd rs1 n) h =
    let small : mag (pos n) < 2 ^ 63 = omega (arith, h.0.2) in
    line_of_two (codes "fence") mnemonics.Fence rd rs1 (pos n) fence_is h.0.0 h.0.1 small
    ∙ (ap (of_parts (λ r. inst.Fence r.0 r.1 (unsigned_abs r.2))) (two_registers_read (pos 0) (pos 4095) rd rs1 (pos n) h.0.0 h.0.1 small (omega (arith, ints)) (omega (arith, ints, h.0.2)))
    ∙ said_word w (inst.Fence rd rs1 n) h.1)
instruction_read w inst.Ecall h = said_word w inst.Ecall h.1
instruction_read w inst.Ebreak h = said_word w inst.Ebreak h.1
