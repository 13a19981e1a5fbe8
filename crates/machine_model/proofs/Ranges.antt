-- Ranges of addresses, the bytes in them and the pages that they lie on.
use Rattle.std.proofs.Common.{◌≡◌, ℕ, zero, suc, ◌+◌, ◌-◌, ◌/◌, ◌^◌, ◌<◌, ◌≤◌, min, Bool, true, false, ◌&&◌, ◌||◌, if◌then◌else◌, List, [], ◌∷◌, ◌++◌, ◌*◌, nat_lt, length, Option, Some, None, MatchOption, inl, inr, refl, sym, ◌∙◌, ap, arith, add-one}
use Rattle.std.specs.Prelude.{◌==◌, slice_index}
use Rattle.std.proofs.lemmas.Nat.{pow-add}
use Rattle.std.proofs.Math.Nat.{mul_assoc}
use Rattle.std.proofs.lemmas.Bool.{cases_eq, cases_lt}
use Rattle.std.proofs.lemmas.Bool.Decides.{nat_tests}
use Rattle.std.proofs.lemmas.List.{length-append, get_or_append_left, get_or_push}
use Rattle.image_model.specs.Pages.{page_of}
use Rattle.machine_model.specs.Machine.{address, range_passes, lesser, least_failing, bytes_at, little_endian, distance, with_bytes, low_bytes, with_written, count_below}

-- ---- which bytes of a range may be accessed

and_false : (a : Bool) → (a && false) ≡ false
and_false true = refl
and_false false = refl

pub left_true : (a b : Bool) → (a && b) ≡ true → a ≡ true
left_true true b h = refl
left_true false b h = h

pub right_true : (a b : Bool) → (a && b) ≡ true → b ≡ true
right_true true b h = h
right_true false b h = cc

pub no_range : (test : ℕ → Bool) (at : ℕ) → range_passes test at 0 ≡ true
unfolding range_passes
no_range test at = refl

-- one byte more
pub passes_more : (test : ℕ → Bool) (at i : ℕ) → range_passes test at i ≡ true →
    test (address at i) ≡ true → range_passes test at (i + 1) ≡ true
unfolding range_passes
passes_more test at i before here = rw (add-one, before) here

-- one byte that may not be accessed refuses the range
pub passes_refused : (test : ℕ → Bool) (at n i : ℕ) → i < n → test (address at i) ≡ false →
    range_passes test at n ≡ false
unfolding range_passes
passes_refused test at zero i lt refused = absurd (omega arith)
passes_refused test at (suc n) i lt refused =
    elim (cases_eq i n) [
      | inl same ↦ (rw (← same, refused) (and_false (range_passes test at i)))
      | inr other ↦ rw (passes_refused test at n i (omega arith) refused) refl
    ]

-- each byte of a range that may be accessed may be
pub passes_each : (test : ℕ → Bool) (at n i : ℕ) → range_passes test at n ≡ true → i < n →
    test (address at i) ≡ true
unfolding range_passes
passes_each test at zero i h lt = absurd (omega arith)
passes_each test at (suc n) i h lt =
    elim (cases_eq i n) [
      | inl same ↦ rw same (right_true (range_passes test at n) (test (address at n)) h)
      | inr other ↦ passes_each test at n i
          (left_true (range_passes test at n) (test (address at n)) h) (omega arith)
    ]

-- a range of which each byte may be accessed
pub passes_all : (test : ℕ → Bool) (at n : ℕ) → ((i : ℕ) → i < n → test (address at i) ≡ true) →
    range_passes test at n ≡ true
unfolding range_passes
passes_all test at zero each = refl
passes_all test at (suc n) each =
    rw (passes_all test at n (λ i lt. each i (omega arith))) (each n (omega arith))

-- ---- the least address that fails

-- what the least failing address of a range is, where address i of it is `at i`
abbrev IsLeast : (ℕ → Bool) → (ℕ → ℕ) → ℕ → Option ℕ → Type 0
IsLeast test at n o = MatchOption o
    ((i : ℕ) → i < n → test (at i) ≡ true)
    (λ a. ((i : ℕ) × (i < n) × (a ≡ at i)) × (test a ≡ false)
    × ((i : ℕ) → i < n → test (at i) ≡ false → a ≤ at i))

true_false : {P : Type 0} {b : Bool} → b ≡ true → b ≡ false → P
true_false p q = cc

-- what holds of each number below n and of n
pub each_more : (P : ℕ → Type 0) (n : ℕ) → ((i : ℕ) → i < n → P i) → P n → (i : ℕ) → i < suc n → P i
each_more P n before here i lt =
    elim (cases_eq i n) [ inl same ↦ rw same here | inr other ↦ before i (omega arith) ]

lesser_of : (test : ℕ → Bool) (at : ℕ → ℕ) (n a b : ℕ) → at n ≡ b → test b ≡ false →
    IsLeast test at n (Some a) → IsLeast test at (suc n) (Some (min a b))
lesser_of test at n a b e here h =
    elim (cases_lt b a) [
      | inl lt ↦ (rw (let m : min a b ≡ b = omega arith in m) (
        (n, omega arith, sym e),
        here,
        each_more (λ i. test (at i) ≡ false → b ≤ at i) n
            (λ i below fails. let l = h.2 i below fails in omega arith) (λ fails. omega arith),
      ))
      | inr le ↦ (rw (let m : min a b ≡ a = omega arith in m) (
        (h.0.0, omega arith, h.0.2),
        h.1,
        each_more (λ i. test (at i) ≡ false → a ≤ at i) n h.2 (λ fails. omega arith),
      ))
    ]

least_more : (test : ℕ → Bool) (at : ℕ → ℕ) (n : ℕ) (o : Option ℕ) (b : Bool) →
    test (at n) ≡ b → IsLeast test at n o →
    IsLeast test at (suc n) (lesser o (if b then None else Some (at n)))
least_more test at n None true e h = each_more (λ i. test (at i) ≡ true) n h e
least_more test at n None false e h = (
  (n, omega arith, refl),
  e,
  each_more (λ i. test (at i) ≡ false → at n ≤ at i) n
      (λ i lt fails. true_false (h i lt) fails) (λ fails. omega arith),
)
least_more test at n (Some a) true e h = (
  (h.0.0, omega arith, h.0.2),
  h.1,
  each_more (λ i. test (at i) ≡ false → a ≤ at i) n h.2 (λ fails. true_false e fails),
)
least_more test at n (Some a) false e h = lesser_of test at n a (at n) refl e h

pub least_failing-least : (test : ℕ → Bool) (at n : ℕ) → MatchOption (least_failing test at n)
    ((i : ℕ) → i < n → test (address at i) ≡ true)
    (λ a. ((i : ℕ) × (i < n) × (a ≡ address at i)) × (test a ≡ false)
    × ((i : ℕ) → i < n → test (address at i) ≡ false → a ≤ address at i))
unfolding least_failing
least_failing-least test at zero = λ i lt. absurd (omega arith)
least_failing-least test at (suc n) =
    least_more test (address at) n (least_failing test at n) (test (address at n)) refl
    (least_failing-least test at n)

passes_by : (test : ℕ → Bool) (at n : ℕ) (o : Option ℕ) → IsLeast test (address at) n o →
    MatchOption o (range_passes test at n ≡ true) (λ a. range_passes test at n ≡ false)
passes_by test at n None h = passes_all test at n h
passes_by test at n (Some a) h =
    passes_refused test at n h.0.0 h.0.1 (ap test (sym h.0.2) ∙ h.1)

pub least_failing-passes : (test : ℕ → Bool) (at n : ℕ) → MatchOption (least_failing test at n)
    (range_passes test at n ≡ true) (λ a. range_passes test at n ≡ false)
least_failing-passes test at n =
    passes_by test at n (least_failing test at n) (least_failing-least test at n)

-- where no address fails, the range passes
pub passes_from_none : (test : ℕ → Bool) (at n : ℕ) → least_failing test at n ≡ None →
    range_passes test at n ≡ true
passes_from_none test at n e = rw e at (least_failing-passes test at n)

-- where one fails, it doesn't
pub passes_from_some : (test : ℕ → Bool) (at n a : ℕ) → least_failing test at n ≡ Some a →
    range_passes test at n ≡ false
passes_from_some test at n a e = rw e at (least_failing-passes test at n)

-- one byte more
pub least_failing-more : (test : ℕ → Bool) (at n : ℕ) → least_failing test at (n + 1)
    ≡ lesser (least_failing test at n)
    (if test (address at n) then None else Some (address at n))
unfolding least_failing
least_failing-more test at n = rw add-one

-- a range goes round at 2 ^ 64
pub least_failing-round : least_failing (λ a. false) (2 ^ 64 - 4) 8 ≡ Some 0
unfolding least_failing
least_failing-round = refl

-- ---- bytes

pub pow_more : (n : ℕ) → 2 ^ (8 * suc n) ≡ 2 ^ 8 * 2 ^ (8 * n)
pow_more n =
    let e : 8 * suc n ≡ 8 + 8 * n = omega arith in
    ap (λ k. 2 ^ k) e ∙ pow-add 2 8 (8 * n)

pub length-bytes_at : (memory : ℕ → ℕ) (at n : ℕ) → length (bytes_at memory at n) ≡ n
unfolding bytes_at
length-bytes_at memory at zero = refl
length-bytes_at memory at (suc n) =
    omega (
      arith,
      length-append (bytes_at memory at n) (memory (address at n) ∷ []),
      length-bytes_at memory at n,
    )

-- one byte more
pub bytes_at-more : (memory : ℕ → ℕ) (at n : ℕ) →
    bytes_at memory at (n + 1) ≡ bytes_at memory at n ++ memory (address at n) ∷ []
unfolding bytes_at
bytes_at-more memory at n = rw add-one

pub little_endian-more : (bytes : List ℕ) (b : ℕ) →
    little_endian (bytes ++ b ∷ []) ≡ little_endian bytes + 2 ^ (8 * length bytes) * b
little_endian-more [] b = omega arith
little_endian-more (x ∷ xs) b =
    let h = little_endian-more xs b in
    let e = pow_more (length xs) in
    let c = mul_assoc (2 ^ 8) (2 ^ (8 * length xs)) b in
    rw (h, e) (omega arith)

-- where a byte of a store is read from, over plain numbers
stored : (a here d n more x y b was : ℕ) → more ≡ n + 1 → here < 2 ^ 64 →
    (d < n → x ≡ y) → (d ≡ n → x ≡ b) → (a < 2 ^ 64 → d ≡ n → a ≡ here) → (a ≡ here → d ≡ n) →
    (if nat_lt a (2 ^ 64) && nat_lt d more then x else was)
    ≡ (if a == here then b else if nat_lt a (2 ^ 64) && nat_lt d n then y else was)
stored a here d n more x y b was m h below last back forth = grind (arith, nat_tests)

distance-here : (at a n : ℕ) → at < 2 ^ 64 → n < 2 ^ 64 → a < 2 ^ 64 → distance at a ≡ n →
    a ≡ address at n
distance-here at a n p q r e = omega arith

address-here : (at a n : ℕ) → at < 2 ^ 64 → n < 2 ^ 64 → a ≡ address at n → distance at a ≡ n
address-here at a n p q e = omega arith

pub with_bytes-more : (at : ℕ) (bytes : List ℕ) (b : ℕ) (memory : ℕ → ℕ) (a : ℕ) →
    at < 2 ^ 64 → length bytes < 2 ^ 64 →
    with_bytes at (bytes ++ b ∷ []) memory a
    ≡ (if a == address at (length bytes) then b else with_bytes at bytes memory a)
with_bytes-more at bytes b memory a p q =
    let d = distance at a in
    let n = length bytes in
    stored a (address at n) d n (length (bytes ++ b ∷ [])) (slice_index (bytes ++ b ∷ []) d)
    (slice_index bytes d) b (memory a) (length-append bytes (b ∷ [])) (omega arith)
    (λ lt. get_or_append_left bytes (b ∷ []) 0 d lt) (λ e. get_or_push bytes b 0 d (sym e))
    (λ r e. distance-here at a n p q r e) (λ e. address-here at a n p q e)

pub length-low_bytes : (n v : ℕ) → length (low_bytes n v) ≡ n
unfolding low_bytes
length-low_bytes zero v = refl
length-low_bytes (suc n) v = ap suc (length-low_bytes n (v / 2 ^ 8))

-- ---- written pages

pub with_written-none : (written : ℕ → Bool) (at page : ℕ) →
    with_written at 0 written page ≡ written page
unfolding with_written
with_written-none written at page = refl

pub with_written-next : (written : ℕ → Bool) (at n page : ℕ) →
    with_written at (suc n) written page
    ≡ (with_written at n written page || page == page_of (address at n))
unfolding with_written
with_written-next written at n page = refl

pub with_written-more : (written : ℕ → Bool) (at n page : ℕ) →
    with_written at (n + 1) written page
    ≡ (with_written at n written page || page == page_of (address at n))
with_written-more written at n page = rw add-one (with_written-next written at n page)

module _ (before after : ℕ → Bool) (page : ℕ)
    (more : (p : ℕ) → after p ≡ (before p || p == page)) where
  count_up_to : (n : ℕ) → n ≤ page → count_below after n ≡ count_below before n
  unfolding count_below
  count_up_to zero le = refl
  count_up_to (suc n) le =
      let h = count_up_to n (omega arith) in
      let e = more n in
      grind (arith, nat_tests)

  count_beyond : (n : ℕ) → page < n → count_below after n
      ≡ (if before page then count_below before n else count_below before n + 1)
  unfolding count_below
  count_beyond zero lt = absurd (omega arith)
  count_beyond (suc n) lt =
      elim (cases_eq n page) [
        | inl same ↦ (
            let h = count_up_to n (omega arith) in
            let e = more n in
            rw (← same) (grind (arith, nat_tests)))
        | inr other ↦ (
            let h = count_beyond n (omega arith) in
            let e = more n in
            grind (arith, nat_tests))
      ]

pub written-more : (written : ℕ → Bool) (at n limit : ℕ) → page_of (address at n) < limit →
    count_below (with_written at (n + 1) written) limit
    ≡ (if with_written at n written (page_of (address at n))
    then count_below (with_written at n written) limit
    else count_below (with_written at n written) limit + 1)
written-more written at n limit lt =
    count_beyond (with_written at n written) (with_written at (n + 1) written)
    (page_of (address at n)) (with_written-more written at n) limit lt
