-- The pages of the bytes of a range.
use Rattle.std.proofs.Common.{◌≡◌, ℕ, zero, suc, ◌+◌, ◌-◌, ◌^◌, ◌<◌, ◌≤◌, Bool, true, false}
use Rattle.std.proofs.Common.{◌||◌, ◌==◌, if◌then◌else◌, None}
use Rattle.std.proofs.Common.{inl, inr, refl, sym, ap, ◌∙◌, arith}
use Rattle.std.proofs.lemmas.Bool.{or_cases, cases_lt}
use Rattle.std.proofs.lemmas.Bool.Decides.{nat_tests}
use Rattle.image_model.specs.Pages.{page_of, page_limit}
use Rattle.machine_model.specs.Hypercall.{packet_limit}
use Rattle.machine_model.specs.Machine.{address, least_failing, with_written}
use Rattle.machine_model.proofs.Ranges.{least_failing-least}
use Rattle.space_api.specs.Flat.{Flat, is_writable}
use Rattle.space_api.specs.Frames.{frames_of, need}
use Rattle.space_api.proofs.Frames.{frames_of-le}
use Rattle.space_laws.specs.Growth.{GrowsWithin, write_need}
use Rattle.space_laws.proofs.Spans.{frames-grow, frames-same}

-- ---- which pages a write adds

pub written-by : (written : ℕ → Bool) (at n page : ℕ) → with_written at n written page ≡ true
    → written page ≡ false → (i : ℕ) × (i < n) × (page ≡ page_of (address at i))
unfolding with_written
written-by written at zero page e off = cc
written-by written at (suc n) page e off =
    elim (or_cases (with_written at n written page) (page == page_of (address at n)) e) [
      | inl before ↦ (
          let w = written-by written at n page before off in
          (w.0, omega (arith, w.1), w.2))
      | inr here ↦ (n, omega arith, grind (arith, nat_tests))
    ]

or_there : (a b c : Bool) → a ≡ b → (c ≡ true → b ≡ true) → (a || c) ≡ b
or_there true b true e h = e
or_there true b false e h = e
or_there false b true e h = sym (h refl)
or_there false b false e h = e

pub written-there : (written : ℕ → Bool) (at n : ℕ)
    → ((i : ℕ) → i < n → written (page_of (address at i)) ≡ true) → (page : ℕ)
    → with_written at n written page ≡ written page
unfolding with_written
written-there written at zero there page = refl
written-there written at (suc n) there page =
    or_there (with_written at n written page) (written page) (page == page_of (address at n))
    (written-there written at n (λ i lt. there i (omega arith)) page)
    (λ is. let same : page ≡ page_of (address at n) = grind (arith, nat_tests) in
    ap written same ∙ there n (omega arith))

-- ---- the need of a write

need_zero : (takes : Bool) (f g : ℕ) → f ≡ g → (if takes then f - g else 0) ≡ 0
need_zero true f g e = omega arith
need_zero false f g e = refl

pub need-there : (takes : Bool) (written : ℕ → Bool) (at n : ℕ)
    → ((i : ℕ) → i < n → written (page_of (address at i)) ≡ true) → need takes written at n ≡ 0
need-there takes written at n there =
    need_zero takes (frames_of (with_written at n written)) (frames_of written)
    (frames-same written (with_written at n written) (written-there written at n there))

pub need-none : (takes : Bool) (written : ℕ → Bool) (at : ℕ) → need takes written at 0 ≡ 0
need-none takes written at = need-there takes written at 0 (λ i lt. absurd (omega arith))

need_le : (takes : Bool) (f g h : ℕ) → g ≤ h
    → (if takes then g - f else 0) ≤ (if takes then h - f else 0)
need_le true f g h le = omega arith
need_le false f g h le = omega arith

more_within : (written : ℕ → Bool) (at n page : ℕ) → with_written at n written page ≡ true
    → with_written at (suc n) written page ≡ true
unfolding with_written
more_within written at n page e = rw e refl

pub need-rises : (takes : Bool) (written : ℕ → Bool) (at n : ℕ)
    → need takes written at n ≤ need takes written at (suc n)
need-rises takes written at n =
    need_le takes (frames_of written) (frames_of (with_written at n written))
    (frames_of (with_written at (suc n) written))
    (frames_of-le (with_written at n written) (with_written at (suc n) written)
    (more_within written at n))

-- ---- where no byte may be written at or above the limit

-- nothing may be written at or above the limit
abbrev pub IsBelow : Flat → Type 0
IsBelow flat = (page : ℕ) → page_limit ≤ page → (flat.permissions page).writable ≡ false

pub each-passes : (test : ℕ → Bool) (at n : ℕ) → least_failing test at n ≡ None → (i : ℕ)
    → i < n → test (address at i) ≡ true
each-passes test at n e = rw e at (least_failing-least test at n)

below_by : (writable : ℕ → Bool) (a : ℕ)
    → ((page : ℕ) → page_limit ≤ page → writable page ≡ false) → writable (page_of a) ≡ true
    → a < 2 ^ 38
below_by writable a below on =
    elim (cases_lt a (2 ^ 38)) [
      | inl lt ↦ lt
      | inr le ↦ (let off = below (page_of a) (omega arith) in cc)
    ]

row_from : (at i : ℕ) → address at 0 < 2 ^ 38 → i < 2 ^ 16 → address at i ≡ address at 0 + i
row_from at i lt few = omega arith

pages_of_row : (first page i : ℕ) → i < packet_limit → page ≡ page_of (first + i)
    → (page_of first ≤ page) × (page ≤ page_of first + 8)
pages_of_row first page i few e = (omega arith, omega arith)

module _ (flat : Flat) (at n : ℕ) (below : IsBelow flat)
    (passes : least_failing (is_writable flat) at n ≡ None) (short : n ≤ packet_limit) where
  byte_below : (i : ℕ) → i < n → address at i < 2 ^ 38
  byte_below i lt =
      below_by (λ page. (flat.permissions page).writable) (address at i) below
      (each-passes (is_writable flat) at n passes i lt)

  pub write-grows : GrowsWithin flat.written (with_written at n flat.written)
      (page_of (address at 0)) 8
  write-grows page on off =
      let w = written-by flat.written at n page on off in
      let first = byte_below 0 (omega (arith, w.1)) in
      pages_of_row (address at 0) page w.0 (omega (arith, w.1))
      (w.2 ∙ ap page_of (row_from at w.0 first (omega (arith, w.1))))

  pub write-few : frames_of (with_written at n flat.written) ≤ frames_of flat.written + write_need
  write-few =
      frames-grow flat.written (with_written at n flat.written) (page_of (address at 0))
      write-grows

few_need : (takes : Bool) (f g : ℕ) → g ≤ f + write_need
    → (if takes then g - f else 0) ≤ write_need
few_need true f g le = omega arith
few_need false f g le = omega arith

pub need-few : (takes : Bool) (flat : Flat) (at n : ℕ) → IsBelow flat
    → least_failing (is_writable flat) at n ≡ None → n ≤ packet_limit
    → need takes flat.written at n ≤ write_need
need-few takes flat at n below passes short =
    few_need takes (frames_of flat.written) (frames_of (with_written at n flat.written))
    (write-few flat at n below passes short)

first_at : (at : ℕ) → at < 2 ^ 64 → address at 0 ≡ at
first_at at lt = omega arith

-- such bytes end at or below the limit
pub write-fits : (flat : Flat) (at n : ℕ) → IsBelow flat
    → least_failing (is_writable flat) at n ≡ None → n ≤ packet_limit → at < 2 ^ 64 → 0 < n
    → at + n ≤ 2 ^ 38
write-fits flat at n below passes short word some =
    let first = byte_below flat at n below passes short 0 some in
    let last = byte_below flat at n below passes short (n - 1) (omega arith) in
    let row = row_from at (n - 1) first (omega arith) in
    let here = first_at at word in
    omega arith
