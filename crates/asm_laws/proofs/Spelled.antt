-- Numbers that were printed are read again.
use Rattle.std.proofs.Common.{◌≡◌, ℕ, zero, suc, ◌+◌, ◌*◌, ◌^◌, ◌<◌, ◌≤◌, Bool, true, false, ◌&&◌, List, [], ◌∷◌, ◌++◌, length}
use Rattle.std.proofs.Common.{Some, None, ℤ, pos, negsuc, lit<, lit≤, drop, refl, ap, ◌∙◌, option_map, replicate, arith}
use Rattle.std.specs.Prelude.{nat_lt, ◌==◌, ◌||◌, if◌then◌else◌, slice_index}
use Rattle.std.specs.List.{list_all}
use Rattle.std.specs.Char.{digit_value as std_value}
use Rattle.std.specs.Str.Parse.{AllDigits, digits_value_after}
use lib.Signed.{mag}
use Rattle.std.specs.Fmt.{decimal, signed_decimal, digits}
use Rattle.std.proofs.lemmas.Bool.Decides.{nat_tests}
use Rattle.std.proofs.lemmas.Fmt.{decimal_is_IsNumeral, digits_is_IsNumeral, decimal_digit, first_decimal}
use Rattle.asm_words.specs.Numbers.{is_decimal_digit, is_hexadecimal_digit, digit_value, value_behind, is_hexadecimal}
use Rattle.asm_words.specs.Numbers.{hexadecimal_value, is_decimal_run, has_no_leading_zero, decimal_value, magnitude, is_negative, negation, number}
use Rattle.asm_laws.proofs.Words.{and_both}

-- ---- one digit

hex_test : (c : ℕ) → std_value c < 16 → is_hexadecimal_digit c ≡ true
hex_test c h = grind (arith, nat_tests)

hex_value : (c : ℕ) → std_value c < 16 → digit_value c ≡ std_value c
hex_value c h = grind (arith, nat_tests)

decimal_test : (c : ℕ) → std_value c < 10 → is_decimal_digit c ≡ true
decimal_test c h = grind (arith, nat_tests)

pub decimal_range : (c : ℕ) → std_value c < 10 → (48 ≤ c) × (c ≤ 57)
decimal_range c h = grind (arith, nat_tests)

-- ---- digits

pub decimal_all : (ds : List ℕ) → AllDigits 10 ds → list_all is_decimal_digit ds ≡ true
decimal_all [] h = refl
decimal_all (c ∷ cs) h = and_both (is_decimal_digit c) (list_all is_decimal_digit cs) (decimal_test c h.0) (decimal_all cs h.1)

pub hex_all : (ds : List ℕ) → AllDigits 16 ds → list_all is_hexadecimal_digit ds ≡ true
hex_all [] h = refl
hex_all (c ∷ cs) h = and_both (is_hexadecimal_digit c) (list_all is_hexadecimal_digit cs) (hex_test c h.0) (hex_all cs h.1)

value_same : (base n : ℕ) (ds : List ℕ) → base ≤ 16 → AllDigits base ds → value_behind base n ds ≡ digits_value_after base n ds
value_same base n [] small h = refl
value_same base n (c ∷ cs) small h =
    let below : std_value c < 16 = omega (arith, h.0) in
    ap (λ d. value_behind base (n * base + d) cs) (hex_value c below)
    ∙ value_same base (n * base + std_value c) cs small h.1

-- each digit is above the marks of a line
digit_above : (c : ℕ) → std_value c < 16 → nat_lt 44 c ≡ true
digit_above c h = grind (arith, nat_tests)

pub digits_above : (base : ℕ) (ds : List ℕ) → base ≤ 16 → AllDigits base ds → list_all (λ b. nat_lt 44 b) ds ≡ true
digits_above base [] small h = refl
digits_above base (c ∷ cs) small h =
    let below : std_value c < 16 = omega (arith, h.0) in
    and_both (nat_lt 44 c) (list_all (λ b. nat_lt 44 b) cs) (digit_above c below) (digits_above base cs small h.1)

nonempty : (ds : List ℕ) → 0 < length ds → nat_lt 0 (length ds) ≡ true
nonempty ds h = grind (arith, nat_tests)

-- ---- decimal

or_right : (a b : Bool) → b ≡ true → (a || b) ≡ true
or_right true b e = refl
or_right false b e = e

above_zero : (d : ℕ) → 48 < d → nat_lt 48 d ≡ true
above_zero d h = grind (arith, nat_tests)

no_zero : (n : ℕ) → n < 2 ^ 64 → has_no_leading_zero (decimal n) ≡ true
no_zero zero h = ap has_no_leading_zero (decimal_digit 0 (lit< tt))
no_zero (suc m) h =
    or_right (length (decimal (suc m)) == 1) (nat_lt 48 (slice_index (decimal (suc m)) 0))
    (above_zero (slice_index (decimal (suc m)) 0) (first_decimal (suc m) (omega arith) h))

pub decimal_read : (n : ℕ) → n < 2 ^ 64 → decimal_value (decimal n) ≡ Some n
decimal_read n h =
    let d = decimal_is_IsNumeral n h in
    let ds = decimal n in
    let run = and_both (nat_lt 0 (length ds)) (list_all is_decimal_digit ds) (nonempty ds d.0.0) (decimal_all ds d.0.1) in
    ap (λ b. if b then Some (value_behind 10 0 ds) else None)
    (and_both (is_decimal_run ds) (has_no_leading_zero ds) run (no_zero n h))
    ∙ ap Some (value_same 10 0 ds (omega arith) d.0.1 ∙ d.1)

and_false : (b c : Bool) → c ≡ false → (b && c) ≡ false
and_false true c e = e
and_false false c e = refl

no_x : (d : ℕ) → std_value d < 10 → (d == 120) ≡ false
no_x d h = let r = decimal_range d h in grind (arith, nat_tests, r)

no_sign : (d : ℕ) → std_value d < 10 → (d == 45) ≡ false
no_sign d h = let r = decimal_range d h in grind (arith, nat_tests, r)

not_hex : (ds : List ℕ) → AllDigits 10 ds → is_hexadecimal ds ≡ false
not_hex [] h = refl
not_hex (c ∷ []) h = and_false (c == 48) false refl
not_hex (c ∷ (d ∷ ds)) h = and_false (c == 48) (d == 120) (no_x d h.1.0)

not_negative : (ds : List ℕ) → AllDigits 10 ds → is_negative ds ≡ false
not_negative [] h = refl
not_negative (c ∷ cs) h = no_sign c h.0

magnitude_read : (n : ℕ) → n < 2 ^ 64 → magnitude (decimal n) ≡ Some n
magnitude_read n h =
    let d = decimal_is_IsNumeral n h in
    ap (λ b. if b then hexadecimal_value (drop 2 (decimal n)) else decimal_value (decimal n)) (not_hex (decimal n) d.0.1)
    ∙ decimal_read n h

-- a number that was printed in decimal
pub number_read : (n : ℕ) → n < 2 ^ 64 → number (decimal n) ≡ Some (pos n)
number_read n h =
    let d = decimal_is_IsNumeral n h in
    let ds = decimal n in
    ap (λ b. if b then option_map negation (magnitude (drop 1 ds)) else option_map pos (magnitude ds)) (not_negative ds d.0.1)
    ∙ ap (option_map pos) (magnitude_read n h)

-- a number that was printed with its sign; mag is its distance from 0, less 1 where it is negative
pub signed_read : (z : ℤ) → mag z < 2 ^ 63 → number (signed_decimal z) ≡ Some z
signed_read (pos n) h = let small : n < 2 ^ 64 = omega arith in number_read n small
signed_read (negsuc n) h =
    let small : suc n < 2 ^ 64 = omega arith in ap (option_map negation) (magnitude_read (suc n) small)

-- ---- hexadecimal

zeros_all : (k : ℕ) (ds : List ℕ) → list_all is_hexadecimal_digit ds ≡ true → list_all is_hexadecimal_digit (replicate k 48 ++ ds) ≡ true
zeros_all zero ds h = h
zeros_all (suc k) ds h = zeros_all k ds h

zeros_value : (k : ℕ) (ds : List ℕ) → value_behind 16 0 (replicate k 48 ++ ds) ≡ value_behind 16 0 ds
zeros_value zero ds = refl
zeros_value (suc k) ds = zeros_value k ds

zeros_some : (k : ℕ) (ds : List ℕ) → 0 < length ds → nat_lt 0 (length (replicate k 48 ++ ds)) ≡ true
zeros_some zero ds h = nonempty ds h
zeros_some (suc k) ds h = nonempty (replicate (suc k) 48 ++ ds) (omega arith)

pub zeros_above : (k : ℕ) (ds : List ℕ) → list_all (λ b. nat_lt 44 b) ds ≡ true → list_all (λ b. nat_lt 44 b) (replicate k 48 ++ ds) ≡ true
zeros_above zero ds h = h
zeros_above (suc k) ds h = zeros_above k ds h

pub wide : (n : ℕ) → n < 2 ^ 32 → n < 16 ^ 64
wide n h = omega arith

pub hex_read : (k n : ℕ) → n < 2 ^ 32 → hexadecimal_value (replicate k 48 ++ digits 16 false n) ≡ Some n
hex_read k n h =
    let ds = digits 16 false n in
    let d = digits_is_IsNumeral 16 false (lit≤ tt) (lit≤ tt) n (wide n h) in
    let all = zeros_all k ds (hex_all ds d.0.1) in
    ap (λ b. if b then Some (value_behind 16 0 (replicate k 48 ++ ds)) else None)
    (and_both (nat_lt 0 (length (replicate k 48 ++ ds))) (list_all is_hexadecimal_digit (replicate k 48 ++ ds)) (zeros_some k ds d.0.0) all)
    ∙ ap Some (zeros_value k ds ∙ (value_same 16 0 ds (lit≤ tt) d.0.1 ∙ d.1))
