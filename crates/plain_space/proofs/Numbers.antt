-- Numbers and the bytes that spell them, the lowest first.
use Rattle.std.proofs.Common.{◌≡◌, ℕ, zero, suc, ◌+◌, ◌*◌, ◌/◌, ◌%◌, ◌^◌, ◌<◌, ◌≤◌}
use Rattle.std.proofs.Common.{List, [], ◌∷◌, take, get_or, refl, ap, ◌∙◌, arith, lit<}
use Rattle.std.proofs.Math.Nat.{pow-suc, div-div-eq-div-mul}
use Rattle.std.specs.Int.{bytes_low_first, byte_at, from_le_bytes, w16, w32, w64}
use Rattle.machine_model.specs.Machine.{address, bytes_at, little_endian, low_bytes}

-- ---- what is read

-- n bytes of a memory are those of a list from the offset on
abbrev pub AreBytes : (memory : ℕ → ℕ) (at n : ℕ) (bytes : List ℕ) (offset : ℕ) → Type 0
AreBytes memory at n bytes offset =
    (i : ℕ) → i < n → memory (address at i) ≡ get_or bytes (offset + i) 0

first_byte : (memory : ℕ → ℕ) (at n : ℕ) (bytes : List ℕ) (offset : ℕ) → 0 < n
    → AreBytes memory at n bytes offset → memory (address at 0) ≡ get_or bytes offset 0
first_byte memory at n bytes offset some h =
    let e : offset + 0 ≡ offset = omega arith in
    h 0 some ∙ ap (λ k. get_or bytes k 0) e

pub one_byte : (memory : ℕ → ℕ) (at : ℕ) (bytes : List ℕ) (offset r : ℕ)
    → r ≡ get_or bytes offset 0 → AreBytes memory at 1 bytes offset
    → r ≡ little_endian (bytes_at memory at 1)
unfolding bytes_at
one_byte memory at bytes o r e h =
    let a = first_byte memory at 1 bytes o (lit< tt) h in
    omega (arith, e, a)

pub two_bytes : (memory : ℕ → ℕ) (at : ℕ) (bytes : List ℕ) (offset r : ℕ)
    → r ≡ from_le_bytes w16 (get_or bytes offset 0 ∷ get_or bytes (offset + 1) 0 ∷ [])
    → AreBytes memory at 2 bytes offset → r ≡ little_endian (bytes_at memory at 2)
unfolding bytes_at
two_bytes memory at bytes o r e h =
    let a = first_byte memory at 2 bytes o (lit< tt) h in
    let b = h 1 (lit< tt) in
    omega (arith, e, a, b)

pub four_bytes : (memory : ℕ → ℕ) (at : ℕ) (bytes : List ℕ) (offset r : ℕ)
    → r ≡ from_le_bytes w32 (get_or bytes offset 0 ∷ get_or bytes (offset + 1) 0
    ∷ get_or bytes (offset + 2) 0 ∷ get_or bytes (offset + 3) 0 ∷ [])
    → AreBytes memory at 4 bytes offset → r ≡ little_endian (bytes_at memory at 4)
unfolding bytes_at
four_bytes memory at bytes o r e h =
    let a = first_byte memory at 4 bytes o (lit< tt) h in
    let b = h 1 (lit< tt) in
    let c = h 2 (lit< tt) in
    let d = h 3 (lit< tt) in
    omega (arith, e, a, b, c, d)

pub eight_bytes : (memory : ℕ → ℕ) (at : ℕ) (bytes : List ℕ) (offset r : ℕ)
    → r ≡ from_le_bytes w64 (get_or bytes offset 0 ∷ get_or bytes (offset + 1) 0
    ∷ get_or bytes (offset + 2) 0 ∷ get_or bytes (offset + 3) 0
    ∷ get_or bytes (offset + 4) 0 ∷ get_or bytes (offset + 5) 0
    ∷ get_or bytes (offset + 6) 0 ∷ get_or bytes (offset + 7) 0 ∷ [])
    → AreBytes memory at 8 bytes offset → r ≡ little_endian (bytes_at memory at 8)
unfolding bytes_at
eight_bytes memory at bytes o r e h =
    let b0 = first_byte memory at 8 bytes o (lit< tt) h in
    let b1 = h 1 (lit< tt) in
    let b2 = h 2 (lit< tt) in
    let b3 = h 3 (lit< tt) in
    let b4 = h 4 (lit< tt) in
    let b5 = h 5 (lit< tt) in
    let b6 = h 6 (lit< tt) in
    let b7 = h 7 (lit< tt) in
    omega (arith, e, b0, b1, b2, b3, b4, b5, b6, b7)

-- ---- the low bytes of a number

low_first : (i n v : ℕ) → bytes_low_first i n v ≡ low_bytes n (v / 256 ^ i)
unfolding low_bytes
low_first i zero v = refl
low_first zero (suc n) v =
    let whole : v / 1 ≡ v = omega arith in
    rw whole (ap (λ bs. v % 256 ∷ bs) (low_first 1 n v))
low_first (suc i) (suc n) v =
    let worth = 256 ^ suc i in
    let power : 256 ^ suc (suc i) ≡ worth * 256 = pow-suc 256 (suc i) in
    let halves : v / worth / 256 ≡ v / (worth * 256) = div-div-eq-div-mul v worth 256 in
    rw halves (ap (λ bs. v / worth % 256 ∷ bs) (rw power at (low_first (suc (suc i)) n v)))

take-bytes_low_first : (i n k v : ℕ) → n ≤ k
    → take n (bytes_low_first i k v) ≡ bytes_low_first i n v
take-bytes_low_first i zero k v h = refl
take-bytes_low_first i (suc n) zero v h = absurd (omega arith)
take-bytes_low_first i (suc n) (suc k) v h =
    ap (λ bs. byte_at i v ∷ bs) (take-bytes_low_first (suc i) n k v (omega arith))

-- the first of a word's bytes, the lowest first, are its low bytes
pub take-to_le_bytes : (n v : ℕ) (bytes : List ℕ) → n ≤ 8 → bytes ≡ bytes_low_first 0 8 v
    → take n bytes ≡ low_bytes n v
take-to_le_bytes n v bytes h e =
    let whole : v / 1 ≡ v = omega arith in
    ap (take n) e ∙ take-bytes_low_first 0 n 8 v h ∙ (rw whole at (low_first 0 n v))
