-- A part of a page, copied from a segment.
use Rattle.std.proofs.Common.{◌≡◌, ℕ, ◌+◌, ◌-◌, ◌<◌, ◌≤◌, true, false, min, List, ◌++◌, length}
use Rattle.std.proofs.Common.{take, drop, inl, inr, ap, ◌∙◌, arith, length-drop}
use Rattle.std.specs.Prelude.{slice_index, ◌^◌}
use Rattle.std.proofs.lemmas.Bool.{cases_lt}
use Rattle.std.proofs.lemmas.Bool.Decides.{nat_tests}
use Rattle.std.proofs.lemmas.List.{get_or_append_left, get_or-append_right, get_or-drop}
use Rattle.std.proofs.lemmas.List.{get_or-take, length-take}
use Rattle.image_model.specs.StartOf.{has_byte}
use Rattle.image_model.specs.declared.image.Segment.{Segment}
use Rattle.image_start.specs.Written.{WritesSegment}

-- xs with ys in the place of k items from a on
abbrev placed : (a k : ℕ) → (xs ys : List ℕ) → List ℕ
placed a k xs ys = take a xs ++ (ys ++ drop k (drop a xs))

front : (a : ℕ) (xs : List ℕ) → a ≤ length xs → length (take a xs) ≡ a
front a xs le = omega (arith, length-take a xs)

placed-below : (a k i : ℕ) (xs ys : List ℕ) → a ≤ length xs → i < a
    → slice_index (placed a k xs ys) i ≡ slice_index xs i
placed-below a k i xs ys le lt =
    let size = front a xs le in
    get_or_append_left (take a xs) (ys ++ drop k (drop a xs)) 0 i (omega arith)
    ∙ get_or-take a xs i 0 lt

placed-within : (a k i : ℕ) (xs ys : List ℕ) → a ≤ length xs → length ys ≡ k → a ≤ i → i < a + k
    → slice_index (placed a k xs ys) i ≡ slice_index ys (i - a)
placed-within a k i xs ys le size low lt =
    get_or-append_right (take a xs) (ys ++ drop k (drop a xs)) a i 0 (front a xs le) low
    ∙ get_or_append_left ys (drop k (drop a xs)) 0 (i - a) (omega arith)

placed-above : (a k i : ℕ) (xs ys : List ℕ) → a ≤ length xs → length ys ≡ k → a + k ≤ i
    → slice_index (placed a k xs ys) i ≡ slice_index xs i
placed-above a k i xs ys le size high =
    let same : a + (k + (i - a - k)) ≡ i = omega arith in
    get_or-append_right (take a xs) (ys ++ drop k (drop a xs)) a i 0 (front a xs le) (omega arith)
    ∙ get_or-append_right ys (drop k (drop a xs)) k (i - a) 0 size (omega arith)
    ∙ get_or-drop k (drop a xs) (i - a - k) 0
    ∙ get_or-drop a xs (k + (i - a - k)) 0
    ∙ ap (slice_index xs) same

-- the part of a page that a segment has file bytes for: `count` from the byte `from` of the page
-- on, which is the byte `before` of the segment
pub record IsPart (s : Segment) (start before from count : ℕ) : Type 0 where
  pub before_is : before ≡ start - s.at
  pub from_is : from ≡ s.at - start
  pub count_is : count ≡ min (2 ^ 12 - from) (length s.bytes - before)
  pub some_bytes : before < length s.bytes
  pub on_page : from < 2 ^ 12

pub copied : (s : Segment) (start before from count : ℕ) (page part : List ℕ)
    → IsPart s start before from count → length page ≡ 2 ^ 12
    → part ≡ take count (drop before s.bytes)
    → WritesSegment s start page (placed from count page part)
copied s start before from count page part is size part_is = λ i lt.
    let before_is = is.before_is in
    let from_is = is.from_is in
    let count_is = is.count_is in
    let some_bytes = is.some_bytes in
    let on_page = is.on_page in
    let left : length (drop before s.bytes) ≡ length s.bytes - before
    = length-drop before s.bytes in
    let part_size : length part ≡ count = ap length part_is
    ∙ front count (drop before s.bytes) (omega arith) in
    elim (cases_lt i from) [
      | inl low ↦
          let off : has_byte s (start + i) ≡ false = grind (arith, nat_tests) in
          rw off (placed-below from count i page part (omega arith) low)
      | inr above ↦ elim (cases_lt i (from + count)) [
        | inl within ↦
            let on : has_byte s (start + i) ≡ true = grind (arith, nat_tests) in
            let there : before + (i - from) ≡ start + i - s.at = omega arith in
            rw on (placed-within from count i page part (omega arith) part_size above within
            ∙ ap (λ xs. slice_index xs (i - from)) part_is
            ∙ get_or-take count (drop before s.bytes) (i - from) 0 (omega arith)
            ∙ get_or-drop before s.bytes (i - from) 0
            ∙ ap (slice_index s.bytes) there)
        | inr high ↦
            let off : has_byte s (start + i) ≡ false = grind (arith, nat_tests) in
            rw off (placed-above from count i page part (omega arith) part_size high)
      ]
    ]
