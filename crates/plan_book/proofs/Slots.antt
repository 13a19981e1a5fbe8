-- What stands under slots, one after the other by rising slots.
use Rattle.std.proofs.Common.{◌≡◌, ◌≢◌, ℕ, zero, suc, ◌+◌, ◌<◌, false, cond, List, [], ◌∷◌}
use Rattle.std.proofs.Common.{length, set, Option, None, Some, refl, sym, ap, ◌∙◌, inl}
use Rattle.std.proofs.Common.{inr, arith, is_some, count_by, subst}
use Rattle.std.specs.Prelude.{nat_eq, slice_index_or}
use Rattle.std.specs.List.{AllByRecursion, AllZip, IsDistinct, sum_by}
use Rattle.std.proofs.lemmas.Bool.{cases_eq}
use Rattle.std.proofs.lemmas.Bool.Decides.{nat_tests}
use Rattle.std.proofs.lemmas.List.{get_or-set_other, get_or_past}
use Rattle.std.proofs.lemmas.List.Sums.{sum_by-cons, sum_by-set}
use Rattle.std.proofs.lemmas.Option.{none-some, same_Some}
use Rattle.slab.specs.Slab.{Slab, entries, entries_from}
use Rattle.slot_lists.specs.Held.{AreUnder}

-- two numbers that a test tells apart
apart : (a b : ℕ) → nat_eq a b ≡ false → b ≢ a
apart a b h = grind (arith, nat_tests)

module _ {V : Type 0} where
  -- one more where there is a value
  abbrev one : Option V → ℕ
  one slot = cond (is_some slot) 1 0

  none_left : (slots : List (Option V)) (k : ℕ) (v : V) → count_by is_some slots ≡ 0 →
      slice_index_or slots k None ≡ Some v → ⊥
  none_left [] k v c h = none-some v h
  none_left (None ∷ slots) zero v c h = none-some v h
  none_left (Some w ∷ slots) zero v c h =
      absurd (omega (arith, c, sum_by-cons one (Some w) slots))
  none_left (o ∷ slots) (suc k) v c h = none_left slots k v
      (omega (arith, c, sum_by-cons one o slots)) h

  within : (slots : List (Option V)) (k : ℕ) (v : V) → slice_index_or slots k None ≡ Some v →
      k < length slots
  within slots k v h = grind (arith, get_or_past)

  -- a slot is emptied
  emptied : List (Option V) → ℕ → List (Option V)
  emptied slots k = set slots k None

  one_less : (slots : List (Option V)) (k : ℕ) (v : V) (n : ℕ) →
      slice_index_or slots k None ≡ Some v → count_by is_some slots ≡ suc n →
      count_by is_some (set slots k None) ≡ n
  one_less slots k v n h c = omega (
    arith,
    c,
    ap one h,
    sum_by-set one slots k None None
        (within slots k v h),
  )

  -- the others are found as before
  still_found : (slots : List (Option V)) (k : ℕ) (vs : List V) (ks : List ℕ) →
      AllByRecursion (λ y. nat_eq k y ≡ false) ks →
      AllZip (λ (v : V) (j : ℕ). slice_index_or slots j None ≡ Some v) vs ks →
      AllZip (λ (v : V) (j : ℕ). slice_index_or (set slots k None) j None ≡ Some v) vs ks
  still_found slots k [] [] d z = tt
  still_found slots k [] (j ∷ ks) d z = absurd z
  still_found slots k (v ∷ vs) [] d z = absurd z
  still_found slots k (v ∷ vs) (j ∷ ks) d z = (
    get_or-set_other slots k j None None (apart k j d.0) ∙ z.0,
    still_found slots k vs ks d.1 z.1,
  )

  -- what holds of these values holds of what is found, where these are all
  found_of : (P : V → Type 0) (vs : List V) (ks : List ℕ) (slots : List (Option V)) →
      IsDistinct nat_eq ks →
      AllZip (λ (v : V) (k : ℕ). slice_index_or slots k None ≡ Some v) vs ks →
      count_by is_some slots ≡ length vs → AllByRecursion P vs → (k : ℕ) (v : V) →
      slice_index_or slots k None ≡ Some v → P v
  unfolding IsDistinct
  found_of P [] ks slots d z c all k v h = absurd (none_left slots k v c h)
  found_of P (w ∷ vs) [] slots d z c all k v h = absurd z
  found_of P (w ∷ vs) (j ∷ ks) slots d z c all k v h = elim (cases_eq k j) [
    | inl e ↦ subst P (same_Some w v (sym z.0
        ∙ (ap (λ i. slice_index_or slots i None) (sym e) ∙ h))) all.0
    | inr differs ↦ found_of P vs ks (set slots j None) d.1 (still_found slots j vs ks d.0 z.1)
        (one_less slots j w (length vs) z.0 c) all.1 k v
        (get_or-set_other slots j k None None differs ∙ h)
  ]

  -- and of all entries
  all_entries : (P : V → Type 0) (first : ℕ) (slots : List (Option V)) →
      ((k : ℕ) (v : V) → slice_index_or slots k None ≡ Some v → P v) →
      AllByRecursion (λ (e : ℕ × V). P e.1) (entries_from first slots)
  all_entries P first [] h = tt
  all_entries P first (None ∷ slots) h =
      all_entries P (first + 1) slots (λ k v e. h (suc k) v e)
  all_entries P first (Some w ∷ slots) h =
      (h 0 w refl, all_entries P (first + 1) slots (λ k v e. h (suc k) v e))

  pub under_all : (P : V → Type 0) (vs : List V) (slab : Slab V) → AreUnder vs slab →
      AllByRecursion P vs → AllByRecursion (λ (e : ℕ × V). P e.1) (entries slab)
  under_all P vs slab u all = all_entries P 0 slab.slots
      (found_of P vs u.slots slab.slots u.apart u.found u.counted all)

  -- ---- sums

  -- what a slot adds
  abbrev part : (V → ℕ) → Option V → ℕ
  part f None = 0
  part f (Some v) = f v

  entries_sum : (f : V → ℕ) (first : ℕ) (slots : List (Option V)) →
      sum_by (λ (e : ℕ × V). f e.1) (entries_from first slots) ≡ sum_by (part f) slots
  entries_sum f first [] = refl
  entries_sum f first (None ∷ slots) = omega (
    arith,
    entries_sum f (first + 1) slots,
    sum_by-cons (part f) None slots,
  )
  entries_sum f first (Some v ∷ slots) = omega (
    arith,
    entries_sum f (first + 1) slots,
    sum_by-cons (part f) (Some v) slots,
    sum_by-cons (λ (e : ℕ × V). f e.1) (first, v) (entries_from (first + 1) slots),
  )

  no_sum : (f : V → ℕ) (slots : List (Option V)) → count_by is_some slots ≡ 0 →
      sum_by (part f) slots ≡ 0
  no_sum f [] c = refl
  no_sum f (None ∷ slots) c = omega (
    arith,
    sum_by-cons (part f) None slots,
    no_sum f slots (omega (arith, c, sum_by-cons one None slots)),
  )
  no_sum f (Some v ∷ slots) c = absurd (omega (arith, c, sum_by-cons one (Some v) slots))

  found_sum : (f : V → ℕ) (vs : List V) (ks : List ℕ) (slots : List (Option V)) →
      IsDistinct nat_eq ks →
      AllZip (λ (v : V) (k : ℕ). slice_index_or slots k None ≡ Some v) vs ks →
      count_by is_some slots ≡ length vs → sum_by (part f) slots ≡ sum_by f vs
  unfolding IsDistinct
  found_sum f [] ks slots d z c = no_sum f slots c
  found_sum f (w ∷ vs) [] slots d z c = absurd z
  found_sum f (w ∷ vs) (j ∷ ks) slots d z c =
      let rest = found_sum f vs ks (set slots j None) d.1 (still_found slots j vs ks d.0 z.1)
      (one_less slots j w (length vs) z.0 c) in
      omega (
        arith,
        rest,
        ap (part f) z.0,
        sum_by-cons f w vs,
        sum_by-set (part f) slots j None None (within slots j w z.0),
      )

  pub under_sum : (f : V → ℕ) (vs : List V) (slab : Slab V) → AreUnder vs slab →
      sum_by (λ (e : ℕ × V). f e.1) (entries slab) ≡ sum_by f vs
  under_sum f vs slab u = entries_sum f 0 slab.slots
      ∙ found_sum f vs u.slots slab.slots u.apart u.found u.counted
