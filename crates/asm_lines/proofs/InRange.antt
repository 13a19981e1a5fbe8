-- What a line says has its numbers in their ranges.
use Rattle.std.proofs.Common.{◌≡◌, ℕ, suc, ◌+◌, ◌-◌, ◌^◌, ◌<◌, ◌&&◌, take, drop, codes, lit<, negsuc, ◌≤ℤ◌, Bool, true, false, List, [], ◌∷◌, length, Option, Some, None}
use Rattle.std.proofs.Common.{Result, Ok, Err, ℤ, pos, IfOk, bytes_eq, ok_or, refl, sym, subst, arith}
use Rattle.std.specs.Prelude.{if◌then◌else◌, nat_lt, ◌==◌, ◌||◌, not, slice_index, int_le, unsigned_abs}
use Rattle.std.proofs.lemmas.Bool.Decides.{nat_tests}
use Rattle.std.proofs.lemmas.Int.{ints}
use Rattle.instruction_model.specs.InstructionWord.{IsRegister}
use Rattle.instruction_model.specs.declared.instruction.BranchOp.{BranchOp}
use Rattle.instruction_model.specs.declared.instruction.Inst.{Inst}
use Rattle.instruction_model.specs.declared.instruction.Inst.TheVariants as inst
use Rattle.instruction_model.specs.Word.{modulo_two_to}
use Rattle.asm_words.specs.Numbers.{decimal_value}
use Rattle.asm_words.specs.Text.{two_operands, three_operands, is_blank, first_word, behind_word, one_word}
use Rattle.asm_words.specs.Registers.{place_of, register_names, register_number, register, named_register}
use Rattle.asm_lines.specs.Said.{said, told, IsInRange}
use Rattle.asm_lines.specs.Statement.{Statement, Nothing, Label, Segment, Entry, Word, Byte, Zeros}
use Rattle.asm_lines.specs.Statement.{BranchTo, JumpTo, and_then, is_name, register_of, number_of}
use Rattle.asm_lines.specs.Statement.{ranged, even_number_in, word_said, one_register, two_registers}
use Rattle.asm_lines.specs.Statement.{three_registers, register_and_address, branch_to, jump_to}
use Rattle.asm_lines.specs.Statement.{of_branch, of_jump, of_parts, imm_low, imm_high, imm_w_low}
use Rattle.asm_lines.specs.Statement.{imm_w_high, instruction, mnemonic, directive, flags}
use Rattle.asm_lines.specs.Statement.{has_three_words, segment_at, segment_with, of_segment, of_number}
use Rattle.asm_lines.specs.Statement.{only_number, directive_meaning, stands_in_segment, is_label}
use Rattle.asm_lines.specs.Statement.{of_label, within, of_mnemonic, of_directive, meaning}
use Rattle.asm_lines.specs.declared.fault.AsmKind.{AsmKind}
use Rattle.asm_lines.specs.declared.fault.AsmKind.TheVariants.{BadShape, UnknownName, OutOfRange}
use Rattle.asm_lines.specs.declared.line.Statement.{Statement as Read}
use Rattle.asm_lines.specs.declared.mnemonic.Directive.{Directive}
use Rattle.asm_lines.specs.declared.mnemonic.Directive.TheVariants as directives
use Rattle.asm_lines.specs.declared.mnemonic.Mnemonic.{Mnemonic}
use Rattle.asm_lines.specs.declared.mnemonic.Mnemonic.TheVariants as mnemonics

abbrev Fine : Result Statement AsmKind → Type 0
Fine r = IfOk r IsInRange

Fine-and_then : {X : Type 0} (r : Result X AsmKind) (next : X → Result Statement AsmKind) → ((x : X) → r ≡ Ok x → Fine (next x)) → Fine (and_then r next)
Fine-and_then (Ok x) next h = h x refl
Fine-and_then (Err kind) next h = tt

Fine-if : (b : Bool) (r s : Result Statement AsmKind) → Fine r → Fine s → Fine (if b then r else s)
Fine-if true r s hr hs = hr
Fine-if false r s hr hs = hs

-- ---- registers

place_lt : (b : Bool) (number : ℕ) (rest : Option ℕ) (n k : ℕ) → (if b then Some number else rest) ≡ Some n → (rest ≡ Some n → n < suc number + k) → n < number + suc k
place_lt true number rest n k e h = let s : number ≡ n = cc in omega arith
place_lt false number rest n k e h = let p = h e in omega (arith, p)

place_of-lt : (number : ℕ) (names : List (List ℕ)) (word : List ℕ) (n : ℕ) → place_of number names word ≡ Some n → n < number + length names
place_of-lt number [] word n e = cc
place_of-lt number (name ∷ names) word n e =
    place_lt (bytes_eq word name) number (place_of (suc number) names word) n (length names) e (place_of-lt (suc number) names word n)

small_lt : (b : Bool) (m n : ℕ) → nat_lt m 32 ≡ b → (if b then Some m else None) ≡ Some n → n < 32
small_lt true m n t e = let s : m ≡ n = cc in let l : m < 32 = grind (arith, nat_tests) in omega arith
small_lt false m n t e = cc

numbered_lt : (o : Option ℕ) (n : ℕ) → register_number o ≡ Some n → n < 32
numbered_lt None n e = cc
numbered_lt (Some m) n e = small_lt (nat_lt m 32) m n refl e

either_lt : (b : Bool) (o p : Option ℕ) (n : ℕ) → (if b then o else p) ≡ Some n → (o ≡ Some n → n < 32) → (p ≡ Some n → n < 32) → n < 32
either_lt true o p n e ho hp = ho e
either_lt false o p n e ho hp = hp e

found : (o : Option ℕ) (n : ℕ) → ok_or o UnknownName ≡ Ok n → o ≡ Some n
found None n e = cc
found (Some m) n e = cc

register_lt : (word : List ℕ) (n : ℕ) → register word ≡ Some n → n < 32
register_lt word n e =
    let numbered = decimal_value (drop 1 word) in
    either_lt (slice_index word 0 == 120) (register_number numbered) (named_register word) n e
    (numbered_lt numbered n) (place_of-lt 0 register_names word n)

register_of-lt : (word : List ℕ) (n : ℕ) → register_of word ≡ Ok n → IsRegister n
register_of-lt word n e = register_lt word n (found (register word) n e)

-- ---- instructions

Fine-of_parts : {X : Type 0} (make : X → Inst) (r : Result X AsmKind) → Fine (of_parts make r)
Fine-of_parts make (Ok x) = tt
Fine-of_parts make (Err kind) = tt

Fine-branch : (b : Bool) (r : Result ℤ AsmKind) (op : BranchOp) (rs1 rs2 : ℕ) (to : List ℕ) → IsRegister rs1 → IsRegister rs2 → Fine (if b then Ok (BranchTo op rs1 rs2 to) else and_then r (λ z. Ok (word_said (inst.Branch op rs1 rs2 z))))
Fine-branch true r op rs1 rs2 to first second = (first, second)
Fine-branch false (Ok z) op rs1 rs2 to first second = tt
Fine-branch false (Err kind) op rs1 rs2 to first second = tt

Fine-jump : (b : Bool) (r : Result ℤ AsmKind) (rd : ℕ) (to : List ℕ) → IsRegister rd → Fine (if b then Ok (JumpTo rd to) else and_then r (λ z. Ok (word_said (inst.Jal rd z))))
Fine-jump true r rd to first = first
Fine-jump false (Ok z) rd to first = tt
Fine-jump false (Err kind) rd to first = tt

Fine-of_branch : (op : BranchOp) (text : List ℕ) → Fine (of_branch op text)
Fine-of_branch op text =
    Fine-and_then (ok_or (three_operands text) BadShape)
    (λ ws. and_then (register_of ws.0) (λ a. and_then (register_of ws.1) (λ b. branch_to op a b ws.2)))
    (λ ws e. Fine-and_then (register_of ws.0) (λ a. and_then (register_of ws.1) (λ b. branch_to op a b ws.2))
    (λ a ea. Fine-and_then (register_of ws.1) (λ b. branch_to op a b ws.2)
    (λ b eb. Fine-branch (is_name ws.2) (even_number_in (negsuc 4095) (pos 4095) ws.2) op a b ws.2
    (register_of-lt ws.0 a ea) (register_of-lt ws.1 b eb))))

Fine-of_jump : (text : List ℕ) → Fine (of_jump text)
Fine-of_jump text =
    Fine-and_then (ok_or (two_operands text) BadShape)
    (λ ws. and_then (register_of ws.0) (λ a. jump_to a ws.1))
    (λ ws e. Fine-and_then (register_of ws.0) (λ a. jump_to a ws.1)
    (λ a ea. Fine-jump (is_name ws.1) (even_number_in (negsuc 1048575) (pos 1048575) ws.1) a ws.1
    (register_of-lt ws.0 a ea)))

Fine-of_nothing : (b : Bool) (v : Inst) → Fine (if b then Ok (word_said v) else Err BadShape)
Fine-of_nothing true v = tt
Fine-of_nothing false v = tt

Fine-instruction : (m : Mnemonic) (text : List ℕ) → Fine (instruction m text)
Fine-instruction mnemonics.Lui text =
    Fine-of_parts (λ r. inst.Lui r.0 (unsigned_abs r.1)) (one_register (pos 0) (pos 1048575) text)
Fine-instruction mnemonics.Auipc text =
    Fine-of_parts (λ r. inst.Auipc r.0 (unsigned_abs r.1)) (one_register (pos 0) (pos 1048575) text)
Fine-instruction mnemonics.Jal text = Fine-of_jump text
Fine-instruction mnemonics.Jalr text =
    Fine-of_parts (λ r. inst.Jalr r.0 r.1 r.2) (register_and_address text)
Fine-instruction (mnemonics.Branch op) text = Fine-of_branch op text
Fine-instruction (mnemonics.Load op) text =
    Fine-of_parts (λ r. inst.Load op r.0 r.1 r.2) (register_and_address text)
Fine-instruction (mnemonics.Store op) text =
    Fine-of_parts (λ r. inst.Store op r.1 r.0 r.2) (register_and_address text)
Fine-instruction (mnemonics.OpImm op) text =
    Fine-of_parts (λ r. inst.OpImm op r.0 r.1 r.2) (two_registers (imm_low op) (imm_high op) text)
Fine-instruction (mnemonics.Op op) text =
    Fine-of_parts (λ r. inst.Op op r.0 r.1 r.2) (three_registers text)
Fine-instruction (mnemonics.OpImmW op) text =
    Fine-of_parts (λ r. inst.OpImmW op r.0 r.1 r.2) (two_registers (imm_w_low op) (imm_w_high op) text)
Fine-instruction (mnemonics.OpW op) text =
    Fine-of_parts (λ r. inst.OpW op r.0 r.1 r.2) (three_registers text)
Fine-instruction mnemonics.Fence text =
    Fine-of_parts (λ r. inst.Fence r.0 r.1 (unsigned_abs r.2)) (two_registers (pos 0) (pos 4095) text)
Fine-instruction mnemonics.Ecall text = Fine-of_nothing (is_blank text) inst.Ecall
Fine-instruction mnemonics.Ebreak text = Fine-of_nothing (is_blank text) inst.Ebreak

-- ---- directives

pick : (b : Bool) (k : ℕ) (rest : Option ℕ) (n : ℕ) → k < 8 → (rest ≡ Some n → n < 8) → (if b then Some k else rest) ≡ Some n → n < 8
pick true k rest n small h e = let s : k ≡ n = cc in omega arith
pick false k rest n small h e = h e

flags_lt : (word : List ℕ) (n : ℕ) → flags word ≡ Some n → n < 8
flags_lt word n =
    let is : List ℕ → Bool = λ name. bytes_eq word name in
    pick (is (codes "x")) 1 _ n (lit< tt) (pick (is (codes "w")) 2 _ n (lit< tt)
    (pick (is (codes "wx")) 3 _ n (lit< tt) (pick (is (codes "r")) 4 _ n (lit< tt)
    (pick (is (codes "rx")) 5 _ n (lit< tt) (pick (is (codes "rw")) 6 _ n (lit< tt)
    (pick (is (codes "rwx")) 7 None n (lit< tt) (λ e. cc)))))))

flags_ok : (o : Option ℕ) (n : ℕ) → ok_or o BadShape ≡ Ok n → o ≡ Some n
flags_ok None n e = cc
flags_ok (Some m) n e = cc

both_true : (a b : Bool) (low high z x : ℤ) → int_le low z ≡ a → (if a && b then Ok z else Err OutOfRange) ≡ Ok x → low ≤ℤ x
both_true true true low high z x t e = let s : z ≡ x = cc in let l : low ≤ℤ z = grind (arith, ints) in omega (arith, ints)
both_true true false low high z x t e = cc
both_true false b low high z x t e = cc

ranged-ge : (low high z x : ℤ) → ranged low high z ≡ Ok x → low ≤ℤ x
ranged-ge low high z x e = both_true (int_le low z) (int_le z high) low high z x refl e

abs_pos : (x : ℤ) → pos 1 ≤ℤ x → 0 < unsigned_abs x
abs_pos (pos n) h = omega (arith, ints)
abs_pos (negsuc n) h = absurd (omega (arith, ints))

Fine-segment_at : (f : ℕ) (a n : ℤ) → f < 8 → Fine (segment_at f a n)
Fine-segment_at f a n small =
    Fine-and_then (ranged (pos 0) (pos (2 ^ 64 - 1)) a)
    (λ at. and_then (ranged (pos 1) (pos (2 ^ 64 - 1)) n) (λ size. Ok (Segment (unsigned_abs at) f (unsigned_abs size))))
    (λ at ea. Fine-and_then (ranged (pos 1) (pos (2 ^ 64 - 1)) n) (λ size. Ok (Segment (unsigned_abs at) f (unsigned_abs size)))
    (λ size es. (small, abs_pos size (ranged-ge (pos 1) (pos (2 ^ 64 - 1)) n size es))))

Fine-segment_with : (f : ℕ) (at size : List ℕ) → f < 8 → Fine (segment_with f at size)
Fine-segment_with f at size small =
    Fine-and_then (number_of at) (λ a. and_then (number_of size) (λ n. segment_at f a n))
    (λ a ea. Fine-and_then (number_of size) (λ n. segment_at f a n)
    (λ n en. Fine-segment_at f a n small))

Fine-of_segment : (text : List ℕ) → Fine (of_segment text)
Fine-of_segment text =
    let word = first_word (behind_word text) in
    let next : ℕ → Result Statement AsmKind = λ f. segment_with f (first_word text) (first_word (behind_word (behind_word text))) in
    Fine-if (has_three_words text) (and_then (ok_or (flags word) BadShape) next) (Err BadShape)
    (Fine-and_then (ok_or (flags word) BadShape) next
    (λ f e. Fine-segment_with f (first_word text) (first_word (behind_word (behind_word text)))
    (flags_lt word f (flags_ok (flags word) f e)))) tt

Fine-entry : (b : Bool) (w : List ℕ) → Fine (if b then Ok (Entry w) else Err BadShape)
Fine-entry true w = tt
Fine-entry false w = tt

Fine-word : (r : Result ℤ AsmKind) → Fine (of_number (λ z. Word (modulo_two_to 32 z)) r)
Fine-word (Ok z) = tt
Fine-word (Err kind) = tt

Fine-byte : (r : Result ℤ AsmKind) → Fine (of_number (λ z. Byte (modulo_two_to 8 z)) r)
Fine-byte (Ok z) = tt
Fine-byte (Err kind) = tt

Fine-zeros : (r : Result ℤ AsmKind) → Fine (of_number (λ z. Zeros (unsigned_abs z)) r)
Fine-zeros (Ok z) = tt
Fine-zeros (Err kind) = tt

Fine-directive : (d : Directive) (text : List ℕ) → Fine (directive_meaning d text)
Fine-directive directives.Segment text = Fine-of_segment text
Fine-directive directives.Entry text =
    Fine-and_then (ok_or (one_word text) BadShape) (λ w. if is_name w then Ok (Entry w) else Err BadShape)
    (λ w e. Fine-entry (is_name w) w)
Fine-directive directives.Word text = Fine-word (only_number (negsuc (2 ^ 31 - 1)) (pos (2 ^ 32 - 1)) text)
Fine-directive directives.Byte text = Fine-byte (only_number (negsuc 127) (pos 255) text)
Fine-directive directives.Zero text = Fine-zeros (only_number (pos 0) (pos (2 ^ 64 - 1)) text)

-- ---- lines

Fine-within : (inside : Bool) (r : Result Statement AsmKind) → Fine r → Fine (within inside r)
Fine-within true r h = h
Fine-within false r h = tt

Fine-label : (b : Bool) (w : List ℕ) → Fine (if b then Ok (Label w) else Err BadShape)
Fine-label true w = tt
Fine-label false w = tt

Fine-mnemonic : (inside : Bool) (m : Option Mnemonic) (text : List ℕ) → Fine (of_mnemonic inside m text)
Fine-mnemonic inside None text = tt
Fine-mnemonic inside (Some m) text = Fine-within inside (instruction m text) (Fine-instruction m text)

Fine-named : (inside : Bool) (d : Option Directive) (word text : List ℕ) → Fine (of_directive inside d word text)
Fine-named inside None word text = Fine-mnemonic inside (mnemonic word) text
Fine-named inside (Some d) word text =
    Fine-within (inside || not (stands_in_segment d)) (directive_meaning d text) (Fine-directive d text)

Fine-meaning : (inside : Bool) (text : List ℕ) → Fine (meaning inside text)
Fine-meaning inside text =
    let word = first_word text in
    let name = take (length word - 1) word in
    let labelled = within inside (of_label word) in
    let rest = of_directive inside (directive word) word (behind_word text) in
    Fine-if (is_blank text) (Ok Nothing) (if is_label (one_word text) then labelled else rest) tt
    (Fine-if (is_label (one_word text)) labelled rest
    (Fine-within inside (of_label word) (Fine-label (is_name name) name))
    (Fine-named inside (directive word) word (behind_word text)))

told_fine : (r : Result Read AsmKind) (s : Result Statement AsmKind) → told r ≡ s → Fine s → IfOk r (λ x. IsInRange (said x))
told_fine (Ok x) s e h = subst (λ v. Fine v) (sym e) h
told_fine (Err kind) s e h = tt

-- what was read of a line is in range
pub range_read : (inside : Bool) (line : List ℕ) (r : Result Read AsmKind) → told r ≡ meaning inside line → IfOk r (λ s. IsInRange (said s))
range_read inside line r e = told_fine r (meaning inside line) e (Fine-meaning inside line)
