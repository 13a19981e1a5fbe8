-- Digits whose worth is taken to be at most 2 ^ 64, step by step.
use Rattle.std.proofs.Common.{◌≡◌, ℕ, ◌+◌, ◌*◌, ◌^◌, ◌<◌, ◌≤◌, List, [], ◌∷◌, length}
use Rattle.std.proofs.Common.{get_or, drop, drop-cons, add-one, refl, ap, sym, ◌∙◌, ◌⊎◌, inl, inr, arith}
use Rattle.std.proofs.lemmas.Bool.{cases_lt}
use Rattle.asm_words.specs.Near.{near_size}
use Rattle.asm_words.specs.Numbers.{digit_value, value_behind}

le-mul : (value base : ℕ) → 1 ≤ base → value ≤ value * base
le-mul value base h = grind arith

-- digits behind a value are worth at least the value
pub le-value_behind : (base value : ℕ) (bs : List ℕ) → 1 ≤ base → value ≤ value_behind base value bs
le-value_behind base value [] h = omega arith
le-value_behind base value (b ∷ bs) h =
    let m = le-mul value base h in
    let rest = le-value_behind base (value * base + digit_value b) bs h in
    omega (arith, m, rest)

far : (n : ℕ) → 2 ^ 64 ≤ n → near_size n ≡ 2 ^ 64
far n h = omega arith

near_by : (base value : ℕ) (bs : List ℕ) → 1 ≤ base → (value < 2 ^ 64) ⊎ (2 ^ 64 ≤ value) → near_size (value_behind base (near_size value) bs) ≡ near_size (value_behind base value bs)
near_by base value bs h (inl below) =
    let e : near_size value ≡ value = omega arith in ap (λ v. near_size (value_behind base v bs)) e
near_by base value bs h (inr above) =
    let p = le-value_behind base (2 ^ 64) bs h in
    let q = le-value_behind base value bs h in
    ap (λ v. near_size (value_behind base v bs)) (far value above)
    ∙ (far (value_behind base (2 ^ 64) bs) p ∙ sym (far (value_behind base value bs) (omega (arith, q))))

-- it doesn't matter when a value is taken to be at most 2 ^ 64
pub near-value_behind : (base value : ℕ) (bs : List ℕ) → 1 ≤ base → near_size (value_behind base (near_size value) bs) ≡ near_size (value_behind base value bs)
near-value_behind base value bs h = near_by base value bs h (cases_lt value (2 ^ 64))

-- a digit more
pub digit_more : (base value i b : ℕ) (digits : List ℕ) → 1 ≤ base → i < length digits → b ≡ get_or digits i 0 → near_size (value_behind base (near_size (value * base + digit_value b)) (drop (i + 1) digits)) ≡ near_size (value_behind base value (drop i digits))
digit_more base value i b digits h within is =
    near-value_behind base (value * base + digit_value b) (drop (i + 1) digits) h
    ∙ rw (drop-cons digits i 0, is, add-one)

-- the same, with the names that code gives to what it computes
pub turn : (base value i d next : ℕ) (digits : List ℕ) → 1 ≤ base → i < length digits → d ≡ digit_value (get_or digits i 0) → next ≡ near_size (value * base + d) → near_size (value_behind base next (drop (i + 1) digits)) ≡ near_size (value_behind base value (drop i digits))
turn base value i d next digits h within d-is next-is =
    rw (next-is, d-is) (digit_more base value i (get_or digits i 0) digits h within refl)
