-- Lists of pages.
use Rattle.std.proofs.Common.{◌≡◌, ℕ, zero, suc, ◌+◌, ◌<◌, ◌≤◌, ◌^◌, ltb, true, false}
use Rattle.std.proofs.Common.{List, [], ◌∷◌, length, get_or, set, arith}
use Rattle.std.proofs.Common.{Some, None, ◌==◌, if◌then◌else◌, refl, sym, ◌∙◌, ap, inl, inr}
use Rattle.std.specs.List.{insert}
use Rattle.std.specs.List.Sorted.{IsNonDecreasingBy, IsPartitionPoint}
use Rattle.std.proofs.lemmas.Bool.{cond-true, cond-false, eq-eqb, ne_eqb, cases_eq, cases_lt}
use Rattle.std.proofs.lemmas.Bool.{ltb-true, ltb-false}
use Rattle.std.proofs.lemmas.List.{get_or_default}
use Rattle.image_model.specs.Permission.{permission_in}
use Rattle.image_model.specs.declared.region.Region.{Region}
use Rattle.plain_space.specs.Pages.{ArePagesOf, page_with, IsPageOf, IsPlace, IsSplit}
use Rattle.plain_space.specs.Pages.{permission_of}
use Rattle.plain_space.specs.declared.page.Page.{Page}

-- ---- numbers rise

-- each page has a number at or above the lowest
pub numbers_above : (regions : List Region) (lowest : ℕ) (pages : List Page) (k : ℕ) (d : Page)
    → ArePagesOf regions lowest pages → k < length pages → lowest ≤ (get_or pages k d).number
numbers_above regions lowest [] k d h lt = absurd (omega arith)
numbers_above regions lowest (p ∷ ps) zero d h lt = h.0.above
numbers_above regions lowest (p ∷ ps) (suc k) d h lt =
    let above = h.0.above in
    let next = numbers_above regions (p.number + 1) ps k d h.1 (omega arith) in
    omega arith

pub numbers_rise : (regions : List Region) (lowest : ℕ) (pages : List Page) (i j : ℕ) (d : Page)
    → ArePagesOf regions lowest pages → i < j → j < length pages
    → (get_or pages i d).number < (get_or pages j d).number
numbers_rise regions lowest [] i j d h lt within = absurd (omega arith)
numbers_rise regions lowest (p ∷ ps) i zero d h lt within = absurd (omega arith)
numbers_rise regions lowest (p ∷ ps) zero (suc j) d h lt within =
    let next = numbers_above regions (p.number + 1) ps j d h.1 (omega arith) in
    omega arith
numbers_rise regions lowest (p ∷ ps) (suc i) (suc j) d h lt within =
    numbers_rise regions (p.number + 1) ps i j d h.1 (omega arith) (omega arith)

pub numbers_never_fall : (regions : List Region) (lowest : ℕ) (pages : List Page)
    → ArePagesOf regions lowest pages → IsNonDecreasingBy (λ p. p.number) pages
numbers_never_fall regions lowest pages h i j d le within =
    elim (cases_eq i j) [
      | inl same ↦ rw same (omega arith)
      | inr other ↦
          let rises = numbers_rise regions lowest pages i j d h (omega arith) within in
          omega arith
    ]

-- ---- a page by its number

-- no page has the number
pub absent_of : (pages : List Page) (n : ℕ)
    → ((k : ℕ) (d : Page) → k < length pages → (get_or pages k d).number ≡ n → ⊥)
    → page_with pages n ≡ None
absent_of [] n h = refl
absent_of (p ∷ ps) n h =
    cond-false (p.number == n) (Some p) (page_with ps n)
    (ne_eqb p.number n (h 0 p (omega arith)))
    ∙ absent_of ps n (λ k d lt. h (suc k) d (omega arith))

pub found_at : (regions : List Region) (lowest : ℕ) (pages : List Page) (i : ℕ) (d : Page)
    → ArePagesOf regions lowest pages → i < length pages
    → page_with pages (get_or pages i d).number ≡ Some (get_or pages i d)
found_at regions lowest [] i d h lt = absurd (omega arith)
found_at regions lowest (p ∷ ps) zero d h lt =
    cond-true (p.number == p.number) (Some p) (page_with ps p.number) (eq-eqb _ _ refl)
found_at regions lowest (p ∷ ps) (suc i) d h lt =
    let n = (get_or ps i d).number in
    let above = numbers_above regions (p.number + 1) ps i d h.1 (omega arith) in
    cond-false (p.number == n) (Some p) (page_with ps n) (ne_eqb p.number n (λ e. omega arith))
    ∙ found_at regions (p.number + 1) ps i d h.1 (omega arith)

pub place_of : (regions : List Region) (pages : List Page) (n i : ℕ) (p : Page)
    → ArePagesOf regions 0 pages → i < length pages → p ≡ get_or pages i p → p.number ≡ n
    → IsPlace pages n i
place_of regions pages n i p h lt e number =
    let at : (d : Page) → (get_or pages i d).number ≡ n =
    λ d. ap (λ q. q.number) (get_or_default pages i d p lt ∙ sym e) ∙ number in
    record {
      within = lt;
      number = at;
      found = λ d. ap (page_with pages) (sym (at d)) ∙ found_at regions 0 pages i d h lt;
    }

-- no page after a split has the number, where the first one hasn't
pub absent_from_split : (regions : List Region) (pages : List Page) (n i : ℕ)
    → ArePagesOf regions 0 pages → IsSplit pages n i
    → ((d : Page) → i < length pages → (get_or pages i d).number ≡ n → ⊥)
    → page_with pages n ≡ None
absent_from_split regions pages n i h split other =
    absent_of pages n (λ k d lt e.
    elim (cases_lt k i) [
      | inl before ↦ (let below = split.below k d before in omega arith)
      | inr after ↦ elim (cases_eq i k) [
        | inl same ↦ (other d (omega arith) (rw same e))
        | inr later ↦
            let rises = numbers_rise regions 0 pages i k d h (omega arith) lt in
            let above = split.above i d (omega arith) (omega arith) in
            omega arith
      ]
    ])

pub split_of : (pages : List Page) (n i : ℕ) → i ≤ length pages
    → IsPartitionPoint (λ p. ltb p.number n ≡ true) (λ p. ltb p.number n ≡ false) pages i
    → IsSplit pages n i
split_of pages n i le h = record {
  within = le;
  below = λ k d lt. ltb-true _ _ (h.0 k d (omega arith) lt);
  above = λ k d after lt. ltb-false _ _ (h.1 k d after lt);
}

-- ---- what is known of a page that is there

pub page_is_whole : (regions : List Region) (lowest : ℕ) (pages : List Page) (i : ℕ) (d : Page)
    → ArePagesOf regions lowest pages → i < length pages
    → length (get_or pages i d).bytes.items ≡ 2 ^ 12
page_is_whole regions lowest [] i d h lt = absurd (omega arith)
page_is_whole regions lowest (p ∷ ps) zero d h lt = h.0.whole
page_is_whole regions lowest (p ∷ ps) (suc i) d h lt =
    page_is_whole regions (p.number + 1) ps i d h.1 (omega arith)

pub page_is_allowed : (regions : List Region) (lowest : ℕ) (pages : List Page) (i : ℕ) (d : Page)
    → ArePagesOf regions lowest pages → i < length pages
    → permission_in regions (get_or pages i d).number ≡ permission_of (get_or pages i d).flags
page_is_allowed regions lowest [] i d h lt = absurd (omega arith)
page_is_allowed regions lowest (p ∷ ps) zero d h lt = h.0.allowed
page_is_allowed regions lowest (p ∷ ps) (suc i) d h lt =
    page_is_allowed regions (p.number + 1) ps i d h.1 (omega arith)

-- ---- a page in the place of another

pub page_with-set : (regions : List Region) (lowest : ℕ) (pages : List Page) (i : ℕ) (q d : Page)
    (m : ℕ) → ArePagesOf regions lowest pages → i < length pages
    → q.number ≡ (get_or pages i d).number
    → page_with (set pages i q) m ≡ (if q.number == m then Some q else page_with pages m)
page_with-set regions lowest [] i q d m h lt e = absurd (omega arith)
page_with-set regions lowest (p ∷ ps) zero q d m h lt e =
    elim (cases_eq q.number m) [
      | inl same ↦ rw (eq-eqb _ _ same) refl
      | inr other ↦ rw (ne_eqb _ _ other, ne_eqb p.number m (λ f. other (e ∙ f))) refl
    ]
page_with-set regions lowest (p ∷ ps) (suc i) q d m h lt e =
    let later = page_with-set regions (p.number + 1) ps i q d m h.1 (omega arith) e in
    let above = numbers_above regions (p.number + 1) ps i d h.1 (omega arith) in
    elim (cases_eq p.number m) [
      | inl same ↦
          rw (eq-eqb p.number m same, ne_eqb q.number m (λ f. omega arith)) refl
      | inr other ↦ rw (ne_eqb p.number m other) later
    ]

pub pages-set : (regions : List Region) (lowest : ℕ) (pages : List Page) (i : ℕ) (q d : Page)
    → ArePagesOf regions lowest pages → i < length pages
    → q.number ≡ (get_or pages i d).number → q.flags ≡ (get_or pages i d).flags
    → length q.bytes.items ≡ 2 ^ 12 → ArePagesOf regions lowest (set pages i q)
pages-set regions lowest [] i q d h lt e f whole = absurd (omega arith)
pages-set regions lowest (p ∷ ps) zero q d h lt e f whole =
    let above = h.0.above in (
      record {
        above = omega arith;
        whole = whole;
        allowed = ap (permission_in regions) e ∙ h.0.allowed ∙ ap permission_of (sym f);
      },
      rw e h.1,
    )
pages-set regions lowest (p ∷ ps) (suc i) q d h lt e f whole =
    (h.0, pages-set regions (p.number + 1) ps i q d h.1 (omega arith) e f whole)

-- ---- a page more

pub page_with-insert : (pages : List Page) (i : ℕ) (q : Page) (m : ℕ)
    → ((k : ℕ) (d : Page) → k < i → (get_or pages k d).number < q.number) → i ≤ length pages
    → page_with (insert pages i q) m ≡ (if q.number == m then Some q else page_with pages m)
page_with-insert pages zero q m below le = refl
page_with-insert [] (suc i) q m below le = absurd (omega arith)
page_with-insert (p ∷ ps) (suc i) q m below le =
    let later = page_with-insert ps i q m (λ k d lt. below (suc k) d (omega arith)) (omega arith) in
    let first = below 0 p (omega arith) in
    elim (cases_eq p.number m) [
      | inl same ↦
          rw (eq-eqb p.number m same, ne_eqb q.number m (λ f. omega arith)) refl
      | inr other ↦ rw (ne_eqb p.number m other) later
    ]

pub pages-insert : (regions : List Region) (lowest : ℕ) (pages : List Page) (i : ℕ) (q : Page)
    → ArePagesOf regions lowest pages → IsPageOf regions lowest q
    → ((k : ℕ) (d : Page) → k < i → (get_or pages k d).number < q.number)
    → ((d : Page) → i < length pages → q.number < (get_or pages i d).number) → i ≤ length pages
    → ArePagesOf regions lowest (insert pages i q)
pages-insert regions lowest [] zero q h page below above le = (page, h)
pages-insert regions lowest (p ∷ ps) zero q h page below above le =
    let first = above p (omega arith) in
    (page, (record { above = omega arith; whole = h.0.whole; allowed = h.0.allowed }, h.1))
pages-insert regions lowest [] (suc i) q h page below above le = absurd (omega arith)
pages-insert regions lowest (p ∷ ps) (suc i) q h page below above le =
    let first = below 0 p (omega arith) in (
      h.0,
      pages-insert regions (p.number + 1) ps i q h.1
          (record { above = omega arith; whole = page.whole; allowed = page.allowed })
          (λ k d lt. below (suc k) d (omega arith)) (λ d lt. above d (omega arith)) (omega arith),
    )
