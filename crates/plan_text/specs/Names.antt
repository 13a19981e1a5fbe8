-- The names of layers and functions.
use Rattle.std.specs.Prelude.{ℕ, ◌+◌, ◌==◌, nat_le, Bool, false, not, ◌&&◌, ◌||◌}
use Rattle.std.specs.Prelude.{if◌then◌else◌, List, [], ◌∷◌, length, Option, Some, None}
use Rattle.std.specs.List.{list_all, list_any}
use Rattle.std.specs.Str.{bytes_eq}

-- ---- how a name is spelled, in ASCII

-- `a` to `z`
abbrev pub is_letter : ℕ → Bool
is_letter c = nat_le 97 c && nat_le c 122

-- a letter, `0` to `9`, `_` or `-`
abbrev pub is_name_character : ℕ → Bool
is_name_character c =
    is_letter c || (nat_le 48 c && nat_le c 57) || c == 95 || c == 45

abbrev pub longest_name : ℕ
longest_name = 32

abbrev pub begins_with_letter : List ℕ → Bool
begins_with_letter [] = false
begins_with_letter (c ∷ cs) = is_letter c

-- 1 to 32 of these characters, of which the first is a letter
abbrev pub is_name : List ℕ → Bool
is_name text =
    begins_with_letter text && (nat_le (length text) longest_name && list_all is_name_character
    text)

-- ---- names of one kind

abbrev pub has_repeat : List (List ℕ) → Bool
has_repeat [] = false
has_repeat (name ∷ names) = list_any (λ other. bytes_eq other name) names || has_repeat names

unfoldable pub are_names : List (List ℕ) → Bool
are_names names = list_all is_name names && not (has_repeat names)

-- the number of the first that is the name, where they are numbered from a number on
abbrev pub number_of : ℕ → List ℕ → List (List ℕ) → Option ℕ
number_of first name [] = None
number_of first name (other ∷ names) =
    if bytes_eq other name then Some first else number_of (first + 1) name names
