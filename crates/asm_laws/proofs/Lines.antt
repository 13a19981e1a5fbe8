-- Lines of a name and operands are taken apart again.
use Rattle.std.proofs.Common.{◌≡◌, ℕ, suc, ◌+◌, ◌^◌, ◌<◌, ◌≤◌, Bool, true, false, ◌&&◌, List, [], ◌∷◌, ◌++◌, length, drop}
use Rattle.std.proofs.Common.{Option, Some, None, Result, Ok, Err, ℤ, pos, negsuc, ◌≤ℤ◌, lit≤, refl, ap, ◌∙◌, ok_or, arith}
use Rattle.std.specs.Prelude.{nat_lt, not, ◌==◌, ◌||◌, if◌then◌else◌, int_le}
use Rattle.std.specs.List.{list_all, prefix_len, before_first, after_first}
use Rattle.std.specs.Fmt.{decimal, signed_decimal}
use Rattle.std.proofs.lemmas.Bool.Decides.{nat_tests}
use Rattle.std.proofs.lemmas.Int.{ints}
use Rattle.std.proofs.lemmas.Fmt.{decimal_is_IsNumeral}
use lib.Signed.{mag}
use Rattle.asm_words.specs.Registers.{register_number}
use Rattle.asm_words.specs.Text.{is_space, is_blank, from_word, first_word, behind_word, one_word, is_parenthesis, has_parenthesis}
use Rattle.asm_lines.specs.Statement.{Statement, Nothing, and_then, register_of, ranged, number_in, statement, meaning}
use Rattle.asm_lines.specs.Statement.{directive, of_directive, of_mnemonic, instruction, within, of_label, is_label}
use Rattle.asm_lines.specs.declared.fault.AsmKind.{AsmKind}
use Rattle.asm_lines.specs.declared.fault.AsmKind.TheVariants.{BadNumber, UnknownName, OutOfRange}
use Rattle.asm_lines.specs.declared.mnemonic.Mnemonic.{Mnemonic}
use Rattle.asm_laws.proofs.Words.{and_both, and_left, all_append, all_weaker, none_any, before_at, after_at, before_none, one_word_is, one_word_behind, IsPlain}
use Rattle.asm_laws.proofs.Spelled.{decimal_read, digits_above, signed_read}
use Rattle.asm_laws.proofs.Mnemonics.{IsMnemonic}

-- each byte is above the marks of a line
abbrev pub Above : List ℕ → Type 0
Above w = list_all (λ b. nat_lt 44 b) w ≡ true

above_not : (k b : ℕ) → k ≤ 44 → nat_lt 44 b ≡ true → not (b == k) ≡ true
above_not k b h e = grind (arith, nat_tests)

pub no_mark : (k : ℕ) (w : List ℕ) → k ≤ 44 → Above w → list_all (λ b. not (b == k)) w ≡ true
no_mark k w h above = all_weaker (λ b. nat_lt 44 b) (λ b. not (b == k)) (λ b e. above_not k b h e) w above

above_plain : (b : ℕ) → nat_lt 44 b ≡ true → not (b == 40 || b == 41) ≡ true
above_plain b e = grind (arith, nat_tests)

pub no_parenthesis : (w : List ℕ) → Above w → has_parenthesis w ≡ false
no_parenthesis w above =
    none_any is_parenthesis w (all_weaker (λ b. nat_lt 44 b) (λ b. not (is_parenthesis b)) (λ b e. above_plain b e) w above)

pub plain_word : (c : ℕ) (cs : List ℕ) → Above (c ∷ cs) → IsPlain (c ∷ cs) (c ∷ cs)
plain_word c cs above = record {
  no_comma = no_mark 44 (c ∷ cs) (lit≤ tt) above;
  word = one_word_is c cs (no_mark 32 (c ∷ cs) (lit≤ tt) above);
  no_parenthesis = no_parenthesis (c ∷ cs) above;
}

pub plain_behind : (w : List ℕ) → 0 < length w → Above w → IsPlain (32 ∷ w) w
plain_behind [] some above = absurd (omega arith)
plain_behind (c ∷ cs) some above = record {
  no_comma = no_mark 44 (c ∷ cs) (lit≤ tt) above;
  word = one_word_behind c cs (no_mark 32 (c ∷ cs) (lit≤ tt) above);
  no_parenthesis = no_parenthesis (c ∷ cs) above;
}

-- ---- registers

below_true : (a : ℕ) → a < 32 → nat_lt a 32 ≡ true
below_true a h = grind (arith, nat_tests)

pub register_above : (a : ℕ) → a < 32 → Above (120 ∷ decimal a)
register_above a h =
    let small : a < 2 ^ 64 = omega arith in digits_above 10 (decimal a) (lit≤ tt) (decimal_is_IsNumeral a small).0.1

pub register_read : (a : ℕ) → a < 32 → register_of (120 ∷ decimal a) ≡ Ok a
register_read a h =
    let small : a < 2 ^ 64 = omega arith in
    ap (λ o. ok_or (register_number o) UnknownName) (decimal_read a small)
    ∙ ap (λ b. ok_or (if b then Some a else None) UnknownName) (below_true a h)

-- ---- numbers

pub signed_above : (z : ℤ) → mag z < 2 ^ 63 → Above (signed_decimal z)
signed_above (pos n) h =
    let small : n < 2 ^ 64 = omega arith in digits_above 10 (decimal n) (lit≤ tt) (decimal_is_IsNumeral n small).0.1
signed_above (negsuc n) h =
    let small : suc n < 2 ^ 64 = omega arith in digits_above 10 (decimal (suc n)) (lit≤ tt) (decimal_is_IsNumeral (suc n) small).0.1

pub signed_some : (z : ℤ) → mag z < 2 ^ 63 → 0 < length (signed_decimal z)
signed_some (pos n) h = let small : n < 2 ^ 64 = omega arith in (decimal_is_IsNumeral n small).0.0
signed_some (negsuc n) h = omega arith

le_true : (a b : ℤ) → a ≤ℤ b → int_le a b ≡ true
le_true a b h = grind (arith, ints)

pub ranged_is : (low high z : ℤ) → low ≤ℤ z → z ≤ℤ high → ranged low high z ≡ Ok z
ranged_is low high z lower upper =
    ap (λ b. if b then Ok z else Err OutOfRange)
    (and_both (int_le low z) (int_le z high) (le_true low z lower) (le_true z high upper))

pub number_in_read : (low high z : ℤ) → mag z < 2 ^ 63 → low ≤ℤ z → z ≤ℤ high → number_in low high (signed_decimal z) ≡ Ok z
number_in_read low high z h lower upper =
    ap (λ o. and_then (ok_or o BadNumber) (ranged low high)) (signed_read z h) ∙ ranged_is low high z lower upper

-- ---- lines

head_space : (c : ℕ) → nat_lt 44 c ≡ true → (c == 32) ≡ false
head_space c h = grind (arith, nat_tests)

abbrev parts_said : (blank label : Bool) (word rest : List ℕ) → Result Statement AsmKind
parts_said blank label word rest =
    if blank then Ok Nothing else if label then within true (of_label word)
    else of_directive true (directive word) word rest

abbrev only_word : Bool → List ℕ → Option (List ℕ)
only_word blank rest =
    if blank then None else if is_blank (after_first is_space rest) then Some (before_first is_space rest) else None

-- a line of a word and what follows
pub line_parts : (c : ℕ) (cs rest : List ℕ) → Above (c ∷ cs) → list_all (λ b. not (b == 35)) rest ≡ true → is_blank rest ≡ false → statement true ((c ∷ cs) ++ (32 ∷ rest)) ≡ of_directive true (directive (c ∷ cs)) (c ∷ cs) rest
line_parts c cs rest above no_hash filled =
    let name = c ∷ cs in
    let text = name ++ (32 ∷ rest) in
    let space = head_space c (and_left (nat_lt 44 c) (list_all (λ b. nat_lt 44 b) cs) above) in
    let no_space = no_mark 32 name (lit≤ tt) above in
    let whole = before_none (λ b. b == 35) text (all_append (λ b. not (b == 35)) name (32 ∷ rest) (no_mark 35 name (lit≤ tt) above) no_hash) in
    let blank : is_blank text ≡ false = ap (λ b. b && is_blank (cs ++ (32 ∷ rest))) space in
    let from : from_word text ≡ text = ap (λ b. drop (if b then 1 + prefix_len is_space (cs ++ (32 ∷ rest)) else 0) text) space in
    let first : first_word text ≡ name = ap (before_first is_space) from ∙ before_at is_space name 32 rest no_space refl in
    let behind : behind_word text ≡ rest = ap (after_first is_space) from ∙ after_at is_space name 32 rest no_space refl in
    let one : one_word text ≡ None =
    ap (λ b. only_word b (from_word text)) blank
    ∙ ap (λ l. if is_blank l then Some (first_word text) else None) behind
    ∙ ap (λ b. if b then Some (first_word text) else None) filled in
    ap (meaning true) whole
    ∙ (ap (λ b. parts_said b (is_label (one_word text)) (first_word text) (behind_word text)) blank
    ∙ (ap (λ o. parts_said false (is_label o) (first_word text) (behind_word text)) one
    ∙ (ap (λ l. parts_said false false l (behind_word text)) first
    ∙ ap (λ l. parts_said false false name l) behind)))

empty_false : nat_lt 0 (length {A = ℕ} []) ≡ true → ⊥
empty_false e = cc

-- a line of a mnemonic and its operands
pub line_read : (name rest : List ℕ) (m : Mnemonic) → IsMnemonic name m → list_all (λ b. not (b == 35)) rest ≡ true → is_blank rest ≡ false → statement true (name ++ (32 ∷ rest)) ≡ instruction m rest
line_read [] rest m is no_hash filled = absurd (empty_false is.some)
line_read (c ∷ cs) rest m is no_hash filled =
    line_parts c cs rest is.above no_hash filled
    ∙ (ap (λ d. of_directive true d (c ∷ cs) rest) is.no_directive ∙ ap (λ o. of_mnemonic true o rest) is.is)
