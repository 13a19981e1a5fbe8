-- The operand `Z(B)` is read again.
use Rattle.std.proofs.Common.{◌≡◌, ℕ, ◌+◌, ◌^◌, ◌<◌, ◌≤◌, true, ◌&&◌, List, [], ◌∷◌, ◌++◌, length}
use Rattle.std.proofs.Common.{Ok, Err, ℤ, pos, negsuc, ◌≤ℤ◌, lit≤, refl, ap, ◌∙◌, ok_or, length-append, arith}
use Rattle.std.specs.Prelude.{not, nat_lt, ◌==◌, if◌then◌else◌}
use Rattle.std.specs.List.{list_all, before_first}
use Rattle.std.specs.Fmt.{signed_decimal}
use Rattle.std.proofs.lemmas.Bool.Decides.{nat_tests}
use lib.Signed.{mag}
use Rattle.asm_words.specs.Text.{is_address, is_inner, before_open, inner_register, has_parenthesis}
use Rattle.asm_lines.specs.Statement.{and_then, register_of, number_in, address_in, register_and_address}
use Rattle.asm_lines.specs.declared.fault.AsmKind.TheVariants.{BadShape}
use Rattle.asm_laws.proofs.Words.{and_both, all_append, before_at, after_at, NoSpace, NoComma, one_word_behind, address_found, IsOperand}
use Rattle.asm_laws.proofs.Lines.{Above, no_mark, no_parenthesis, register_above, register_read, signed_above, signed_some, number_in_read}
use Rattle.asm_laws.proofs.Shapes.{register_word, first_plain, regs2, NoHash}

-- an address as it is printed
abbrev pub address_word : ℤ → ℕ → List ℕ
address_word z b = signed_decimal z ++ (40 ∷ (register_word b ++ (41 ∷ [])))

eq_true : (m n : ℕ) → m ≡ n → (m == n) ≡ true
eq_true m n h = grind (arith, nat_tests)

apart : (m k : ℕ) → k < m → not (m == k) ≡ true
apart m k h = grind (arith, nat_tests)

some_true : (n : ℕ) → 0 < n → nat_lt 0 n ≡ true
some_true n h = grind (arith, nat_tests)

inner : (w : List ℕ) → 0 < length w → Above w → is_inner w ≡ true
inner w some above =
    and_both (nat_lt 0 (length w)) (not (has_parenthesis w)) (some_true (length w) some) (ap not (no_parenthesis w above))

pub open_is : (z : ℤ) (b : ℕ) → mag z < 2 ^ 63 → before_open (address_word z b) ≡ signed_decimal z
open_is z b h = before_at (λ c. c == 40) (signed_decimal z) 40 (register_word b ++ (41 ∷ [])) (no_mark 40 (signed_decimal z) (lit≤ tt) (signed_above z h)) refl

pub inner_is : (z : ℤ) (b : ℕ) → mag z < 2 ^ 63 → b < 32 → inner_register (address_word z b) ≡ register_word b
inner_is z b h hb =
    ap (before_first (λ c. c == 41)) (after_at (λ c. c == 40) (signed_decimal z) 40 (register_word b ++ (41 ∷ [])) (no_mark 40 (signed_decimal z) (lit≤ tt) (signed_above z h)) refl)
    ∙ before_at (λ c. c == 41) (register_word b) 41 [] (no_mark 41 (register_word b) (lit≤ tt) (register_above b hb)) refl

sizes : (s r : List ℕ) → length (s ++ (40 ∷ (r ++ (41 ∷ [])))) ≡ length s + length r + 2
sizes s r =
    let e = length-append s (40 ∷ (r ++ (41 ∷ []))) in
    let f = length-append r (41 ∷ []) in
    omega (arith, e, f)

address_is : (z : ℤ) (b : ℕ) → mag z < 2 ^ 63 → b < 32 → is_address (address_word z b) ≡ true
address_is z b h hb =
    let s = signed_decimal z in
    let r = register_word b in
    let n = length (address_word z b) in
    ap (λ l. is_inner l && is_inner (inner_register (address_word z b)) && n == length l + length (inner_register (address_word z b)) + 2) (open_is z b h)
    ∙ (ap (λ l. is_inner s && is_inner l && n == length s + length l + 2) (inner_is z b h hb)
    ∙ and_both (is_inner s && is_inner r) (n == length s + length r + 2)
    (and_both (is_inner s) (is_inner r) (inner s (signed_some z h) (signed_above z h)) (inner r (omega arith) (register_above b hb)))
    (eq_true n (length s + length r + 2) (sizes s r)))

mark_free : (k : ℕ) (z : ℤ) (b : ℕ) → mag z < 2 ^ 63 → b < 32 → k ≤ 39 → list_all (λ c. not (c == k)) (address_word z b) ≡ true
mark_free k z b h hb small =
    all_append (λ c. not (c == k)) (signed_decimal z) (40 ∷ (register_word b ++ (41 ∷ []))) (no_mark k (signed_decimal z) (omega arith) (signed_above z h))
    (and_both (not (40 == k)) (list_all (λ c. not (c == k)) (register_word b ++ (41 ∷ []))) (apart 40 k (omega arith))
    (all_append (λ c. not (c == k)) (register_word b) (41 ∷ []) (no_mark k (register_word b) (omega arith) (register_above b hb))
    (and_both (not (41 == k)) true (apart 41 k (omega arith)) refl)))

pub hash_address : (z : ℤ) (b : ℕ) → mag z < 2 ^ 63 → b < 32 → NoHash (address_word z b)
hash_address z b h hb = mark_free 35 z b h hb (lit≤ tt)

comma_free : (z : ℤ) (b : ℕ) → mag z < 2 ^ 63 → b < 32 → NoComma (address_word z b)
comma_free z b h hb =
    all_append (λ c. not (c == 44)) (signed_decimal z) (40 ∷ (register_word b ++ (41 ∷ []))) (no_mark 44 (signed_decimal z) (lit≤ tt) (signed_above z h))
    (all_append (λ c. not (c == 44)) (register_word b) (41 ∷ []) (no_mark 44 (register_word b) (lit≤ tt) (register_above b hb)) refl)

operand_behind : (w : List ℕ) → 0 < length w → NoComma w → NoSpace w → IsOperand (32 ∷ w) w
operand_behind [] some comma space = absurd (omega arith)
operand_behind (c ∷ cs) some comma space = record { no_comma = comma; word = one_word_behind c cs space }

address_operand : (z : ℤ) (b : ℕ) → mag z < 2 ^ 63 → b < 32 → IsOperand (32 ∷ address_word z b) (address_word z b)
address_operand z b h hb =
    let some : 0 < length (address_word z b) = omega (arith, sizes (signed_decimal z) (register_word b)) in
    operand_behind (address_word z b) some (comma_free z b h hb) (mark_free 32 z b h hb (lit≤ tt))

pub address_read : (a : ℕ) (z : ℤ) (b : ℕ) → a < 32 → mag z < 2 ^ 63 → negsuc 2047 ≤ℤ z → z ≤ℤ pos 2047 → b < 32 → register_and_address (register_word a ++ (44 ∷ (32 ∷ address_word z b))) ≡ Ok (a, b, z)
address_read a z b ha h lower upper hb =
    let v = register_word a in
    let x = address_word z b in
    ap (λ o. and_then (ok_or o BadShape) (λ ws. if is_address ws.1 then address_in ws.0 ws.1 else Err BadShape))
    (address_found v (32 ∷ x) v x (first_plain a ha) (address_operand z b h hb))
    ∙ (ap (λ t. if t then address_in v x else Err BadShape) (address_is z b h hb)
    ∙ (ap (λ r. regs2 r (register_of (inner_register x)) (number_in (negsuc 2047) (pos 2047) (before_open x))) (register_read a ha)
    ∙ (ap (λ l. regs2 (Ok a) (register_of l) (number_in (negsuc 2047) (pos 2047) (before_open x))) (inner_is z b h hb)
    ∙ (ap (λ r. regs2 (Ok a) r (number_in (negsuc 2047) (pos 2047) (before_open x))) (register_read b hb)
    ∙ (ap (λ l. regs2 (Ok a) (Ok b) (number_in (negsuc 2047) (pos 2047) l)) (open_is z b h)
    ∙ ap (λ r. regs2 (Ok a) (Ok b) r) (number_in_read (negsuc 2047) (pos 2047) z h lower upper))))))
