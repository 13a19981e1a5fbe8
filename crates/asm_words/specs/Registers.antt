-- The registers: `x0` to `x31`, or their names (RISC-V ELF psABI, "Integer Register Convention").
use Rattle.std.specs.Prelude.{ℕ, suc, ◌==◌, nat_lt, if◌then◌else◌, bytes_eq}
use Rattle.std.specs.Prelude.{List, [], ◌∷◌, drop, slice_index, Option, Some, None, codes}
use Rattle.asm_words.specs.Numbers.{decimal_value}

-- the names of x0, x1 and so on
abbrev pub register_names : List (List ℕ)
register_names =
    codes "zero" ∷ codes "ra" ∷ codes "sp" ∷ codes "gp" ∷ codes "tp" ∷ codes "t0" ∷ codes "t1"
    ∷ codes "t2" ∷ codes "s0" ∷ codes "s1" ∷ codes "a0" ∷ codes "a1" ∷ codes "a2" ∷ codes "a3"
    ∷ codes "a4" ∷ codes "a5" ∷ codes "a6" ∷ codes "a7" ∷ codes "s2" ∷ codes "s3" ∷ codes "s4"
    ∷ codes "s5" ∷ codes "s6" ∷ codes "s7" ∷ codes "s8" ∷ codes "s9" ∷ codes "s10" ∷ codes "s11"
    ∷ codes "t3" ∷ codes "t4" ∷ codes "t5" ∷ codes "t6" ∷ []

-- the place of a name among names, where the first has a number
abbrev pub place_of : (number : ℕ) (names : List (List ℕ)) (word : List ℕ) → Option ℕ
place_of number [] word = None
place_of number (name ∷ names) word =
    if bytes_eq word name then Some number else place_of (suc number) names word

abbrev pub named_register : List ℕ → Option ℕ
named_register word = place_of 0 register_names word

-- a number below 32
abbrev pub register_number : Option ℕ → Option ℕ
register_number None = None
register_number (Some n) = if nat_lt n 32 then Some n else None

-- the register that the word names, or none
abbrev pub register : List ℕ → Option ℕ
register word =
    if slice_index word 0 == 120 then register_number (decimal_value (drop 1 word))
    else named_register word
