-- How words are read, from the front. `Spelling` says how they are spelled; that this reads exactly
-- those is proved.
use Rattle.std.specs.Prelude.{ℕ, ◌+◌, ◌-◌, ◌*◌, ◌^◌, Bool, true, false, ◌&&◌, ◌==◌}
use Rattle.std.specs.Prelude.{if◌then◌else◌, List, [], ◌∷◌, length, codes, Option, None, Some}
use Rattle.std.specs.Prelude.{nat_le, nat_lt}
use Rattle.std.specs.List.{slice_split}
use Rattle.std.specs.Str.{bytes_eq}

-- ---- where words end

-- the bytes before a mark, and those behind it
pub record Cut : Type 0 where
  pub word : List ℕ
  pub rest : List ℕ

abbrev pub with_byte : ℕ → Option Cut → Option Cut
with_byte c None = None
with_byte c (Some cut) = Some (record { word = c ∷ cut.word; rest = cut.rest })

-- a text, cut at the first such mark
abbrev pub cut_of : (mark : ℕ) → List ℕ → Option Cut
cut_of mark [] = None
cut_of mark (c ∷ cs) =
    if c == mark then Some (record { word = []; rest = cs }) else with_byte c (cut_of mark cs)

-- ---- numbers

-- the number that a digit is, 0 to 9 or a small a to f; 16 where it is none
abbrev pub low_digit : ℕ → ℕ
low_digit c = if nat_le 48 c && nat_le c 57 then c - 48
    else if nat_le 97 c && nat_le c 102 then c - 87
    else 16

-- the number that digits write after those of n
abbrev pub digits_of : (base n : ℕ) → List ℕ → Option ℕ
digits_of base n [] = Some n
digits_of base n (c ∷ cs) =
    if nat_lt (low_digit c) base then digits_of base (n * base + low_digit c) cs else None

-- a number, if it has 64 bits
abbrev pub fitting : Option ℕ → Option ℕ
fitting None = None
fitting (Some n) = if nat_lt n (2 ^ 64) then Some n else None

-- no leading zero, or a zero alone
abbrev pub is_plain : List ℕ → Bool
is_plain [] = false
is_plain (c ∷ []) = true
is_plain (c ∷ d ∷ cs) = if c == 48 then false else true

abbrev pub at_most : ℕ → Option ℕ → Option ℕ
at_most most None = None
at_most most (Some n) = if nat_le n most then Some n else None

-- the number of at most so much that a word is
unfoldable pub number_of : (base most : ℕ) → List ℕ → Option ℕ
number_of base most word =
    if is_plain word then at_most most (fitting (digits_of base 0 word)) else None

-- ---- bytes

abbrev pub with_first : {A : Type 0} → Option A → Option (List A) → Option (List A)
with_first None more = None
with_first (Some x) None = None
with_first (Some x) (Some xs) = Some (x ∷ xs)

abbrev pub pair_of : (high low : ℕ) → Option ℕ
pair_of high low = if nat_lt (low_digit high) 16 && nat_lt (low_digit low) 16
    then Some (low_digit high * 16 + low_digit low) else None

-- the bytes of pairs of digits
abbrev pub pairs_of : List ℕ → Option (List ℕ)
pairs_of [] = Some []
pairs_of (digit ∷ []) = None
pairs_of (high ∷ low ∷ rest) = with_first (pair_of high low) (pairs_of rest)

-- the bytes that a word is, of which there are at most 32,768
unfoldable pub bytes_of : List ℕ → Option (List ℕ)
bytes_of word = if bytes_eq word (codes "-") then Some []
    else if nat_le 1 (length word) && nat_le (length word) 65536 then pairs_of word
    else None

-- ---- packets

abbrev pub each_bytes_of : List (List ℕ) → Option (List (List ℕ))
each_bytes_of [] = Some []
each_bytes_of (word ∷ words) = with_first (bytes_of word) (each_bytes_of words)

abbrev pub is_slash : ℕ → Bool
is_slash c = c == 47

-- the packets of a text with slashes between
abbrev pub parts_of : List ℕ → Option (List (List ℕ))
parts_of text = each_bytes_of (slice_split is_slash text)

-- the packets that a word is
unfoldable pub packets_of : List ℕ → Option (List (List ℕ))
packets_of word = if bytes_eq word (codes "none") then Some [] else parts_of word
