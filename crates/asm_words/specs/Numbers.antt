-- Numbers: decimal digits without a leading zero, or `0x` and one or more hexadecimal digits of
-- either case; a `-` may stand before them. They may be of any size.
use Rattle.std.specs.Prelude.{ℕ, ◌+◌, ◌-◌, ◌*◌, ◌==◌, nat_le, nat_lt, Bool, ◌&&◌, ◌||◌}
use Rattle.std.specs.Prelude.{if◌then◌else◌, ℤ, pos, neg_ℤ, List, [], ◌∷◌, length, slice_index}
use Rattle.std.specs.Prelude.{drop, Option, Some, None, option_map}
use Rattle.std.specs.List.{list_all}

-- ---- digits

abbrev pub is_decimal_digit : ℕ → Bool
is_decimal_digit b = nat_le 48 b && nat_le b 57

-- `a` to `f` or `A` to `F`
abbrev pub is_lower_digit : ℕ → Bool
is_lower_digit b = nat_le 97 b && nat_le b 102

abbrev pub is_upper_digit : ℕ → Bool
is_upper_digit b = nat_le 65 b && nat_le b 70

abbrev pub is_hexadecimal_digit : ℕ → Bool
is_hexadecimal_digit b = is_decimal_digit b || is_lower_digit b || is_upper_digit b

abbrev pub digit_value : ℕ → ℕ
digit_value b =
    if is_lower_digit b then b - 97 + 10 else if is_upper_digit b then b - 65 + 10 else b - 48

-- what digits are worth behind those that are worth `value`
abbrev pub value_behind : (base value : ℕ) → List ℕ → ℕ
value_behind base value [] = value
value_behind base value (b ∷ bs) = value_behind base (value * base + digit_value b) bs

-- ---- numbers without a sign

abbrev pub is_hexadecimal : List ℕ → Bool
is_hexadecimal word = slice_index word 0 == 48 && slice_index word 1 == 120

abbrev pub is_hexadecimal_run : List ℕ → Bool
is_hexadecimal_run digits = nat_lt 0 (length digits) && list_all is_hexadecimal_digit digits

abbrev pub hexadecimal_value : List ℕ → Option ℕ
hexadecimal_value digits =
    if is_hexadecimal_run digits then Some (value_behind 16 0 digits) else None

abbrev pub is_decimal_run : List ℕ → Bool
is_decimal_run digits = nat_lt 0 (length digits) && list_all is_decimal_digit digits

-- no digit stands behind a zero in front
abbrev pub has_no_leading_zero : List ℕ → Bool
has_no_leading_zero digits = length digits == 1 || nat_lt 48 (slice_index digits 0)

abbrev pub decimal_value : List ℕ → Option ℕ
decimal_value digits =
    if is_decimal_run digits && has_no_leading_zero digits then Some (value_behind 10 0 digits)
    else None

abbrev pub magnitude : List ℕ → Option ℕ
magnitude word =
    if is_hexadecimal word then hexadecimal_value (drop 2 word) else decimal_value word

-- ---- numbers

abbrev pub is_negative : List ℕ → Bool
is_negative word = slice_index word 0 == 45

abbrev pub negation : ℕ → ℤ
negation n = neg_ℤ (pos n)

-- the number that the word spells, or none
abbrev pub number : List ℕ → Option ℤ
number word =
    if is_negative word then option_map negation (magnitude (drop 1 word))
    else option_map pos (magnitude word)
