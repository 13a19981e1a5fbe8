-- The parts of a text: lines, and the words and operands of a line. A text is its bytes in UTF-8;
-- line feed is 10, space 32, `#` 35, `(` 40, `)` 41, `,` 44. A tab is no space, nor is a carriage
-- return.
use Rattle.std.specs.Prelude.{ℕ, ◌+◌, ◌==◌, nat_lt, Bool, not, ◌&&◌, ◌||◌, if◌then◌else◌}
use Rattle.std.specs.Prelude.{List, [], ◌∷◌, length, drop, Option, Some, None}
use Rattle.std.specs.List.{list_all, list_any, onto_first, prefix_len, before_first, after_first}

-- ---- lines

-- What stands between line feeds. No line follows a line feed at the end.
abbrev pub lines : List ℕ → List (List ℕ)
lines [] = []
lines (b ∷ bs) = if b == 10 then [] ∷ lines bs else onto_first b (lines bs)

-- a line up to its comment
abbrev pub content : List ℕ → List ℕ
content line = before_first (λ b. b == 35) line

-- ---- words: what stands between spaces

abbrev pub is_space : ℕ → Bool
is_space b = b == 32

abbrev pub is_blank : List ℕ → Bool
is_blank text = list_all is_space text

-- the text from its first word on
abbrev pub from_word : List ℕ → List ℕ
from_word text = drop (prefix_len is_space text) text

abbrev pub first_word : List ℕ → List ℕ
first_word text = before_first is_space (from_word text)

-- what follows the first word and the space behind it
abbrev pub behind_word : List ℕ → List ℕ
behind_word text = after_first is_space (from_word text)

-- the only word, or none where there is another number of words
abbrev pub one_word : List ℕ → Option (List ℕ)
one_word text =
    if is_blank text then None
    else if is_blank (behind_word text) then Some (first_word text) else None

-- ---- operands of instructions: a word each, with a comma between two

abbrev pub is_comma : ℕ → Bool
is_comma b = b == 44

abbrev pub is_parenthesis : ℕ → Bool
is_parenthesis b = b == 40 || b == 41

abbrev pub has_comma : List ℕ → Bool
has_comma text = list_any is_comma text

-- the word that is the last operand
abbrev pub last_operand : List ℕ → Option (List ℕ)
last_operand text = if has_comma text then None else one_word text

-- the word before the first comma
abbrev pub first_operand : List ℕ → Option (List ℕ)
first_operand text = if has_comma text then one_word (before_first is_comma text) else None

-- what follows the first comma
abbrev pub behind_comma : List ℕ → List ℕ
behind_comma text = after_first is_comma text

abbrev pub has_parenthesis : List ℕ → Bool
has_parenthesis text = list_any is_parenthesis text

-- an operand without parentheses
abbrev pub plain : Option (List ℕ) → Option (List ℕ)
plain None = None
plain (Some word) = if has_parenthesis word then None else Some word

abbrev pub both : {X Y : Type 0} → Option X → Option Y → Option (X × Y)
both None y = None
both (Some x) None = None
both (Some x) (Some y) = Some (x, y)

abbrev pub before_both : {X : Type 0} → Option X → Option (X × X) → Option (X × X × X)
before_both None ys = None
before_both (Some x) None = None
before_both (Some x) (Some ys) = Some (x, ys.0, ys.1)

abbrev pub two_operands : List ℕ → Option (List ℕ × List ℕ)
two_operands text = both (plain (first_operand text)) (plain (last_operand (behind_comma text)))

abbrev pub three_operands : List ℕ → Option (List ℕ × List ℕ × List ℕ)
three_operands text =
    before_both (plain (first_operand text)) (two_operands (behind_comma text))

-- the operands of `r, Z(B)`; the last may have parentheses
abbrev pub address_operands : List ℕ → Option (List ℕ × List ℕ)
address_operands text =
    both (plain (first_operand text)) (last_operand (behind_comma text))

-- ---- an operand `Z(B)`

-- the text is not empty and has no parenthesis
abbrev pub is_inner : List ℕ → Bool
is_inner text = nat_lt 0 (length text) && not (has_parenthesis text)

-- `Z` of `Z(B)`
abbrev pub before_open : List ℕ → List ℕ
before_open word = before_first (λ b. b == 40) word

-- `B` of `Z(B)`
abbrev pub inner_register : List ℕ → List ℕ
inner_register word =
    before_first (λ b. b == 41) (after_first (λ b. b == 40) word)

-- the operand is `Z(B)`, with two words without parentheses
abbrev pub is_address : List ℕ → Bool
is_address word =
    is_inner (before_open word) && is_inner (inner_register word)
    && length word == length (before_open word) + length (inner_register word) + 2
