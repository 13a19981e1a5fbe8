-- How text of a document is shown in one line.
use Rattle.std.specs.Prelude.{ℕ, ◌/◌, ◌%◌, nat_le, false, ◌&&◌, if◌then◌else◌, List, [], ◌∷◌, ◌++◌}
use Rattle.std.specs.Prelude.{length, take, codes}
use Rattle.std.specs.Fmt.{digits}
use Rattle.std.specs.List.{flat_map}

-- a byte in two hexadecimal digits
abbrev pub two_digits : ℕ → List ℕ
two_digits b = digits 16 false (b / 16) ++ digits 16 false (b % 16)

-- a printable character of ASCII as it is, and any other byte as `\x` with its two hexadecimal
-- digits
abbrev pub shown_byte : ℕ → List ℕ
shown_byte b =
    if nat_le 32 b && nat_le b 126 then b ∷ [] else codes "\\x" ++ two_digits b

abbrev pub shown_bytes : List ℕ → List ℕ
shown_bytes text = flat_map shown_byte text

-- the most bytes of a text that are shown
abbrev pub most_shown : ℕ
most_shown = 64

-- a longer text is cut, and goes on with three dots
abbrev pub shown : List ℕ → List ℕ
shown text = if nat_le (length text) most_shown then shown_bytes text
    else shown_bytes (take most_shown text) ++ codes "..."
