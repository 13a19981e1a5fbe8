-- What stores make of memory.
use Rattle.std.proofs.Common.{◌≡◌, ℕ, ◌+◌, ◌-◌, ◌%◌, ◌^◌, ◌<◌, ◌≤◌}
use Rattle.std.proofs.Common.{true, false, ◌&&◌, ltb, leb}
use Rattle.std.proofs.Common.{List, [], ◌++◌, length}
use Rattle.std.proofs.Common.{inl, inr, refl, sym, ◌∙◌, arith}
use Rattle.std.proofs.Common.{length-append}
use Rattle.std.proofs.lemmas.Bool.{cases_lt, le-leb, lt-leb, lt-ltb, le-ltb, and_left}
use Rattle.std.proofs.lemmas.Bool.{and_right, true≢false}
use Rattle.std.proofs.lemmas.Bool.Decides.{nat_tests}
use Rattle.std.proofs.lemmas.List.{get_or_append_left, get_or-append_right}
use Rattle.image_model.specs.Pages.{page_of}
use Rattle.machine_model.specs.Machine.{address, distance, with_bytes}

pub with_bytes-none : (at : ℕ) (memory : ℕ → ℕ) (a : ℕ) → with_bytes at [] memory a ≡ memory a
with_bytes-none at memory a = grind (arith, nat_tests)

-- how far it is from n addresses on
distance-after : (at n a : ℕ) → at < 2 ^ 64 → n < 2 ^ 64 → a < 2 ^ 64 → n ≤ distance at a
    → distance (address at n) a ≡ distance at a - n
distance-after at n a h k l le = omega arith

distance-before : (at n a : ℕ) → at < 2 ^ 64 → n < 2 ^ 64 → a < 2 ^ 64 → distance at a < n
    → distance (address at n) a ≡ distance at a + 2 ^ 64 - n
distance-before at n a h k l lt = omega arith

pub with_bytes-append : (at : ℕ) (xs ys : List ℕ) (memory : ℕ → ℕ) (a : ℕ) → at < 2 ^ 64
    → length xs + length ys < 2 ^ 64
    → with_bytes at (xs ++ ys) memory a
    ≡ with_bytes (address at (length xs)) ys (with_bytes at xs memory) a
with_bytes-append at xs ys memory a h small =
    let d = distance at a in
    let n = length xs in
    let whole : length (xs ++ ys) ≡ n + length ys = length-append xs ys in
    elim (cases_lt a (2 ^ 64)) [
      | inl word ↦ elim (cases_lt d n) [
        | inl left ↦
            let e : distance (address at n) a ≡ d + 2 ^ 64 - n =
            distance-before at n a h (omega arith) word left in
            rw (
              lt-ltb a (2 ^ 64) word,
              lt-ltb d n left,
              lt-ltb d (length (xs ++ ys)) (omega arith),
              le-ltb (distance (address at n) a) (length ys) (omega arith),
            ) (get_or_append_left xs ys 0 d left)
        | inr right ↦
            let e : distance (address at n) a ≡ d - n =
            distance-after at n a h (omega arith) word right in
            elim (cases_lt d (n + length ys)) [
              | inl within ↦
                  rw (
                    lt-ltb a (2 ^ 64) word,
                    e,
                    lt-ltb d (length (xs ++ ys)) (omega arith),
                    lt-ltb (d - n) (length ys) (omega arith),
                  ) (get_or-append_right xs ys n d 0 refl right)
              | inr beyond ↦
                  rw (
                    lt-ltb a (2 ^ 64) word,
                    e,
                    le-ltb d (length (xs ++ ys)) (omega arith),
                    le-ltb (d - n) (length ys) (omega arith),
                    le-ltb d n right,
                  ) refl
            ]
      ]
      | inr none ↦ rw (le-ltb a (2 ^ 64) none) refl
    ]

-- ---- a piece on one page

-- an address is in the piece exactly where its offset is
pub in_piece : (at n a : ℕ) → at < 2 ^ 64 → at % 2 ^ 12 + n ≤ 2 ^ 12 → page_of a ≡ page_of at
    → (leb (at % 2 ^ 12) (a % 2 ^ 12) && ltb (a % 2 ^ 12) (at % 2 ^ 12 + n))
    ≡ (ltb a (2 ^ 64) && ltb (distance at a) n)
in_piece at n a h within same =
    let word = lt-ltb a (2 ^ 64) (omega arith) in
    elim (cases_lt a at) [
      | inl before ↦
          rw (
            word,
            lt-leb (at % 2 ^ 12) (a % 2 ^ 12) (omega arith),
            le-ltb (distance at a) n (omega arith),
          ) refl
      | inr after ↦
          let d : distance at a ≡ a - at = omega arith in
          let from = le-leb (at % 2 ^ 12) (a % 2 ^ 12) (omega arith) in
          elim (cases_lt (a - at) n) [
            | inl lt ↦
                rw (
                  word,
                  d,
                  from,
                  lt-ltb (a - at) n lt,
                  lt-ltb (a % 2 ^ 12) (at % 2 ^ 12 + n) (omega arith),
                ) refl
            | inr le ↦
                rw (
                  word,
                  d,
                  from,
                  le-ltb (a - at) n le,
                  le-ltb (a % 2 ^ 12) (at % 2 ^ 12 + n) (omega arith),
                ) refl
          ]
    ]

-- and then it is as far from the first
pub piece_index : (at n a : ℕ) → at < 2 ^ 64 → at % 2 ^ 12 + n ≤ 2 ^ 12 → page_of a ≡ page_of at
    → (ltb a (2 ^ 64) && ltb (distance at a) n) ≡ true
    → a % 2 ^ 12 - at % 2 ^ 12 ≡ distance at a
piece_index at n a h within same e =
    elim (cases_lt a at) [
      | inl before ↦
          absurd (true≢false (sym e ∙ and_right (ltb a (2 ^ 64)) (ltb (distance at a) n)
          (le-ltb (distance at a) n (omega arith))))
      | inr after ↦ (omega arith)
    ]

-- no address of another page is in the piece
pub off_piece : (at n a : ℕ) → at < 2 ^ 64 → at % 2 ^ 12 + n ≤ 2 ^ 12
    → (page_of at ≡ page_of a → ⊥) → (ltb a (2 ^ 64) && ltb (distance at a) n) ≡ false
off_piece at n a h within other =
    elim (cases_lt a (2 ^ 64)) [
      | inr none ↦ and_left _ _ (le-ltb a (2 ^ 64) none)
      | inl word ↦ elim (cases_lt (distance at a) n) [
        | inr le ↦ and_right _ _ (le-ltb (distance at a) n le)
        | inl lt ↦ absurd (other (omega arith))
      ]
    ]
