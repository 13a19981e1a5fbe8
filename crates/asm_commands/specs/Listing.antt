-- The words of an image as lines.
use Rattle.std.specs.Prelude.{ℕ, ◌+◌, ◌-◌, ◌%◌, ◌==◌, Bool, false, if◌then◌else◌}
use Rattle.std.specs.Prelude.{List, [], ◌∷◌, ◌++◌, length, replicate, codes}
use Rattle.std.specs.Fmt.{digits}
use Rattle.std.specs.Int.{w32, from_le_bytes}
use Rattle.image_model.specs.declared.image.Segment.{Segment}
use Rattle.rv_asm.specs.Disassembly.{disassembly, eight_digits}

-- a number in hexadecimal, in as many digits as it takes
abbrev pub hexadecimal : ℕ → List ℕ
hexadecimal n = digits 16 false n

-- a byte in two hexadecimal digits
unfoldable pub two_digits : ℕ → List ℕ
two_digits n = let shown = digits 16 false n in replicate (2 - length shown) 48 ++ shown

-- `ADDRESS WORD `
abbrev pub word_prefix : (at w : ℕ) → List ℕ
word_prefix at w = hexadecimal at ++ (codes " " ++ (eight_digits w ++ codes " "))

-- `ADDRESS WORD TEXT`
abbrev pub word_line : (at w : ℕ) → List ℕ
word_line at w = (word_prefix at w ++ disassembly w) ++ codes "\n"

-- `ADDRESS BYTE .byte 0xBYTE`
abbrev pub byte_line : (at b : ℕ) → List ℕ
byte_line at b =
    hexadecimal at
    ++ (codes " " ++ (two_digits b ++ (codes " .byte 0x" ++ (two_digits b ++ codes "\n"))))

-- the lines of a rest of fewer than four bytes, a byte each
abbrev pub rest_lines : (at : ℕ) → List ℕ → List ℕ
rest_lines at [] = []
rest_lines at (b ∷ bs) = byte_line at b ++ rest_lines (at + 1) bs

-- the lines of bytes from an address on, four each, the lowest first
abbrev pub bytes_lines : (at : ℕ) → List ℕ → List ℕ
bytes_lines at [] = []
bytes_lines at (a ∷ []) = rest_lines at (a ∷ [])
bytes_lines at (a ∷ (b ∷ [])) = rest_lines at (a ∷ b ∷ [])
bytes_lines at (a ∷ (b ∷ (c ∷ []))) = rest_lines at (a ∷ b ∷ c ∷ [])
bytes_lines at (a ∷ (b ∷ (c ∷ (d ∷ bs)))) =
    word_line at (from_le_bytes w32 (a ∷ b ∷ c ∷ d ∷ [])) ++ bytes_lines (at + 4) bs

-- a segment may be executed
abbrev pub is_executable : Segment → Bool
is_executable segment = segment.flags % 2 == 1

abbrev pub segment_lines : Segment → List ℕ
segment_lines segment =
    if is_executable segment then bytes_lines segment.at segment.bytes else []

-- the lines of the executable segments, in their order
abbrev pub listing : List Segment → List ℕ
listing [] = []
listing (segment ∷ segments) = segment_lines segment ++ listing segments
