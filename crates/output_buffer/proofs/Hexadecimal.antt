-- The digits of a number, the last one apart.
use Rattle.std.proofs.Common.{◌≡◌, ℕ, zero, suc, ◌+◌, ◌-◌, ◌/◌, ◌%◌, ◌^◌, ◌<◌, ◌≤◌, Bool}
use Rattle.std.proofs.Common.{true, false, if◌then◌else◌, List, [], ◌∷◌, ◌++◌, length, replicate}
use Rattle.std.proofs.Common.{refl, sym, ap, ◌∙◌, subst, arith, nat_eq, eq-eqb, ne_eqb}
use Rattle.std.proofs.Common.{append_assoc, length-append}
use Rattle.std.proofs.lemmas.Fmt.{digits_is_IsNumeral, hex_one_digit}
use Rattle.std.proofs.Math.Nat.{pow-suc}
use Rattle.std.specs.Fmt.{digit_glyph, digits, digits_onto}
use Rattle.output_buffer.specs.Pieces.{padded}

-- the last digit
abbrev last : ℕ → ℕ
last n = digit_glyph false (n % 16)

joins_step : (b : Bool) (g : ℕ) (acc front more : List ℕ) → more ≡ front ++ acc
    → (if b then g ∷ acc else more) ≡ (if b then g ∷ [] else front) ++ acc
joins_step true g acc front more e = refl
joins_step false g acc front more e = e

-- digits before others
onto_joins : (k n : ℕ) (acc : List ℕ)
    → digits_onto k 16 false n acc ≡ digits_onto k 16 false n [] ++ acc
onto_joins zero n acc = refl
onto_joins (suc k) n acc =
    let g = last n in
    let front = digits_onto k 16 false (n / 16) [] in
    joins_step (nat_eq (n / 16) 0) g acc (digits_onto k 16 false (n / 16) (g ∷ []))
    (digits_onto k 16 false (n / 16) (g ∷ acc))
    (onto_joins k (n / 16) (g ∷ acc) ∙ sym (append_assoc front (g ∷ []) acc)
    ∙ ap (λ l. l ++ acc) (sym (onto_joins k (n / 16) (g ∷ []))))

room_step : (b : Bool) (xs ys zs : List ℕ) → ys ≡ zs
    → (if b then xs else ys) ≡ (if b then xs else zs)
room_step true xs ys zs e = refl
room_step false xs ys zs e = e

-- room for more digits than there are changes nothing
more_room : (k n : ℕ) (acc : List ℕ) → n < 2 ^ k
    → digits_onto (suc k) 16 false n acc ≡ digits_onto (suc (suc k)) 16 false n acc
more_room zero n acc few =
    let e : n / 16 ≡ 0 = omega arith in
    let t : nat_eq (n / 16) 0 ≡ true = eq-eqb (n / 16) 0 e in rw t refl
more_room (suc k) n acc few =
    room_step (nat_eq (n / 16) 0) (last n ∷ acc) _ _
    (more_room k (n / 16) (last n ∷ acc) (omega (arith, pow-suc 2 k)))

in_room : (k n : ℕ) → 16 ≤ n → n / 16 < 2 ^ k
    → digits_onto (suc (suc k)) 16 false n []
    ≡ digits_onto (suc (suc k)) 16 false (n / 16) [] ++ (last n ∷ [])
in_room k n large few =
    let e : nat_eq (n / 16) 0 ≡ false = ne_eqb (n / 16) 0 (λ none. omega (arith, none)) in
    let step : digits_onto (suc (suc k)) 16 false n []
    ≡ digits_onto (suc k) 16 false (n / 16) (last n ∷ []) =
    ap (λ b. if b then last n ∷ [] else digits_onto (suc k) 16 false (n / 16) (last n ∷ [])) e in
    step ∙ onto_joins (suc k) (n / 16) (last n ∷ [])
    ∙ ap (λ l. l ++ (last n ∷ [])) (more_room k (n / 16) [] few)

in_room_of : (i k n : ℕ) → i ≡ suc (suc k) → 16 ≤ n → n / 16 < 2 ^ k
    → digits_onto i 16 false n [] ≡ digits_onto i 16 false (n / 16) [] ++ (last n ∷ [])
in_room_of i k n e large few =
    subst (λ j. digits_onto j 16 false n [] ≡ digits_onto j 16 false (n / 16) [] ++ (last n ∷ []))
    (sym e) (in_room k n large few)

-- the last digit behind the others
hex_more : (n : ℕ) → 16 ≤ n → n < 2 ^ 64
    → digits 16 false n ≡ digits 16 false (n / 16) ++ (last n ∷ [])
unfolding digits
hex_more n large small = in_room_of 64 62 n (omega arith) large (omega arith)

-- zeros
abbrev zeros : ℕ → List ℕ
zeros k = replicate k 48

zeros_more : (k : ℕ) → zeros k ++ (48 ∷ []) ≡ zeros (suc k)
zeros_more zero = refl
zeros_more (suc k) = ap (λ l. 48 ∷ l) (zeros_more k)

-- ---- padded

-- the last digit behind the others, and behind zeros
pub padded_large : (width n : ℕ) → 16 ≤ n → n < 2 ^ 64
    → padded (width - 1) (n / 16) ++ (last n ∷ []) ≡ padded width n
unfolding padded
padded_large width n large small =
    let front = digits 16 false (n / 16) in
    let more = hex_more n large small in
    let size : length (digits 16 false n) ≡ length front + 1 =
    ap length more ∙ length-append front (last n ∷ []) in
    let count : width - 1 - length front ≡ width - length (digits 16 false n) = omega arith in
    append_assoc (replicate (width - 1 - length front) 48) front (last n ∷ [])
    ∙ ap (λ l. replicate (width - 1 - length front) 48 ++ l) (sym more)
    ∙ ap (λ k. replicate k 48 ++ digits 16 false n) count

-- one digit behind zeros
pub padded_wide : (width n : ℕ) → n < 16 → 1 < width
    → padded (width - 1) (n / 16) ++ (last n ∷ []) ≡ padded width n
unfolding padded
padded_wide width n small wide =
    let none : n / 16 ≡ 0 = omega arith in
    let zero_is : digits 16 false (n / 16) ≡ 48 ∷ [] =
    ap (λ m. digits 16 false m) none ∙ hex_one_digit false 0 (omega arith) in
    let same : n % 16 ≡ n = omega arith in
    let one : digits 16 false n ≡ last n ∷ [] =
    hex_one_digit false n small ∙ ap (λ d. digit_glyph false d ∷ []) (sym same) in
    let size : length (digits 16 false n) ≡ 1 = ap length one in
    let fewer : length (digits 16 false (n / 16)) ≡ 1 = ap length zero_is in
    let count : suc (width - 1 - length (digits 16 false (n / 16)))
    ≡ width - length (digits 16 false n) = omega arith in
    let k = width - 1 - length (digits 16 false (n / 16)) in
    ap (λ l. (replicate k 48 ++ l) ++ (last n ∷ [])) zero_is
    ∙ ap (λ l. l ++ (last n ∷ [])) (zeros_more k)
    ∙ ap (λ j. replicate j 48 ++ (last n ∷ [])) count
    ∙ ap (λ l. replicate (width - length (digits 16 false n)) 48 ++ l) (sym one)

-- one digit alone
pub padded_last : (width n : ℕ) → n < 16 → width ≤ 1 → last n ∷ [] ≡ padded width n
unfolding padded
padded_last width n small narrow =
    let same : n % 16 ≡ n = omega arith in
    let one : digits 16 false n ≡ last n ∷ [] =
    hex_one_digit false n small ∙ ap (λ d. digit_glyph false d ∷ []) (sym same) in
    let size : length (digits 16 false n) ≡ 1 = ap length one in
    let none : 0 ≡ width - length (digits 16 false n) = omega arith in
    sym one ∙ ap (λ j. replicate j 48 ++ digits 16 false n) none

-- a number has a digit
pub padded_one : (n : ℕ) → n < 2 ^ 64 → padded 1 n ≡ digits 16 false n
unfolding padded
padded_one n small =
    let numeral = digits_is_IsNumeral 16 false (omega arith) (omega arith) n (omega arith) in
    let some : 0 < length (digits 16 false n) = numeral.0.0 in
    let none : 1 - length (digits 16 false n) ≡ 0 = omega arith in
    ap (λ j. replicate j 48 ++ digits 16 false n) none
