-- The first line of a text.
use Rattle.std.proofs.Common.{◌≡◌, ℕ, suc, ◌+◌, ◌<◌, ◌==◌, List, [], ◌∷◌, length, take, drop, refl}
use Rattle.std.proofs.Common.{Bool, true, false, cond, not, arith, length-drop}
use Rattle.std.specs.List.{before_first, after_first, prefix_len, onto_first}
use Rattle.asm_words.specs.Text.{lines}

-- how many bytes stand before the first line feed
abbrev before : List ℕ → ℕ
before text = prefix_len (λ b. not (b == 10)) text

-- a byte in front, where it is a line feed or not, and what is behind it has a first line
in_front : (test : Bool) (b : ℕ) (bs : List ℕ)
    → lines bs ≡ take (before bs) bs ∷ lines (drop (before bs + 1) bs)
    → cond test ([] ∷ lines bs) (onto_first b (lines bs))
    ≡ take (cond (not test) (1 + before bs) 0) (b ∷ bs)
    ∷ lines (drop (cond (not test) (1 + before bs) 0 + 1) (b ∷ bs))
in_front true b bs first = refl
in_front false b bs first =
    let one : 1 + before bs ≡ suc (before bs) = omega arith in
    let two : suc (before bs) + 1 ≡ suc (before bs + 1) = omega arith in
    rw (one, two, first) refl

-- a byte that is the whole text
alone : (test : Bool) (b : ℕ)
    → cond test ([] ∷ []) (onto_first b [])
    ≡ take (cond (not test) (1 + 0) 0) (b ∷ [])
    ∷ lines (drop (cond (not test) (1 + 0) 0 + 1) (b ∷ []))
alone true b = refl
alone false b = refl

-- a text that isn't empty is its first line, and the lines behind it
pub first_line : (text : List ℕ) → 0 < length text
    → lines text ≡ before_first (λ b. b == 10) text ∷ lines (after_first (λ b. b == 10) text)
first_line [] some = absurd (omega arith)
first_line (b ∷ []) some = alone (b == 10) b
first_line (b ∷ (c ∷ cs)) some = in_front (b == 10) b (c ∷ cs) (first_line (c ∷ cs) (omega arith))

-- what is behind the first line is shorter than the text
pub shorter : (text : List ℕ) → 0 < length text
    → length (after_first (λ b. b == 10) text) < length text
shorter text some = simp length-drop (omega arith)
