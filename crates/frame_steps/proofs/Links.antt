-- Links where one word of a table changed.
use Rattle.std.proofs.Common.{◌≡◌, ℕ, zero, suc, ◌+◌, ◌<◌, ◌≤◌, ◌≢◌, Bool, true, false, eqb, if◌then◌else◌, List, [], ◌∷◌, length, refl, sym, ap, subst, ⊎_elim, arith, length-append}
use Rattle.std.proofs.lemmas.Bool.{cases_eq, eq-eqb, ne_eqb, cond-true, cond-false}
use Rattle.frame_model.specs.Words.{Frames, names, target, links_in, links_below}
use Rattle.frame_model.specs.Views.{Has, one_if, times, less_one, targets}
use Rattle.frame_model.proofs.Counts.{links_in_same, links_same}
pub use Rattle.frame_model.proofs.NameCounts.{targets_none, targets_one, link_times}
use Rattle.frame_model.proofs.Parts.{times_less}
use Rattle.frame_steps.specs.Counted.{less_by}

if_length : (b : Bool) (p : ℕ × ℕ) → length (if b then p ∷ [] else []) ≡ one_if b
if_length true p = refl
if_length false p = refl

module _ (m l : Frames) (h f i : ℕ) (same : (g j : ℕ) → ((g ≡ f) × (j ≡ i) → ⊥) → j < 512 → names m h g j ≡ names l h g j) where
  in_change : (k : ℕ) → k ≤ 512 → i < k → length (links_in m h f k) + one_if (names l h f i) ≡ length (links_in l h f k) + one_if (names m h f i)
  unfolding links_in
  in_change zero most lt = absurd (omega arith)
  in_change (suc k) most lt =
      let a = if_length (names m h f k) (f, k) in
      let b = if_length (names l h f k) (f, k) in
      let am = length-append (links_in m h f k) (if names m h f k then (f, k) ∷ [] else []) in
      let al = length-append (links_in l h f k) (if names l h f k then (f, k) ∷ [] else []) in
      ⊎_elim
      (λ (e : i ≡ k).
      let below = ap (λ (xs : List (ℕ × ℕ)). length xs) (links_in_same m l h f k (λ j lj. same f j (λ t. let q = t.1 in omega arith) (omega arith))) in
      let x = ap (λ (j : ℕ). one_if (names m h f j)) e in
      let y = ap (λ (j : ℕ). one_if (names l h f j)) e in
      omega arith)
      (λ (ne : i ≡ k → ⊥).
      let r = in_change k (omega arith) (omega arith) in
      let q = ap one_if (same f k (λ t. ne (sym t.1)) (omega arith)) in
      omega arith)
      (cases_eq i k)

  below_change : (n : ℕ) → f < n → i < 512 → length (links_below m h n) + one_if (names l h f i) ≡ length (links_below l h n) + one_if (names m h f i)
  unfolding links_below
  below_change zero lf li = absurd (omega arith)
  below_change (suc n) lf li =
      let am = length-append (links_below m h n) (links_in m h n 512) in
      let al = length-append (links_below l h n) (links_in l h n 512) in
      ⊎_elim
      (λ (e : f ≡ n).
      let below = ap (λ (xs : List (ℕ × ℕ)). length xs) (links_same m l h n (λ g j lg lj. same g j (λ t. let q = t.0 in omega arith) lj)) in
      let here = subst (λ (x : ℕ). length (links_in m h x 512) + one_if (names l h f i) ≡ length (links_in l h x 512) + one_if (names m h f i)) e (in_change 512 (omega arith) li) in
      omega arith)
      (λ (ne : f ≡ n → ⊥).
      let r = below_change n (omega arith) li in
      let here = ap (λ (xs : List (ℕ × ℕ)). length xs) (links_in_same m l h n 512 (λ j lj. same n j (λ t. ne (sym t.0)) lj)) in
      omega arith)
      (cases_eq f n)

-- the number of links changes with that word
pub links_change : (m l : Frames) (h f i : ℕ) → ((g j : ℕ) → ((g ≡ f) × (j ≡ i) → ⊥) → j < 512 → names m h g j ≡ names l h g j)
    → (n : ℕ) → f < n → i < 512 → length (links_below m h n) + one_if (names l h f i) ≡ length (links_below l h n) + one_if (names m h f i)
links_change = below_change

-- ---- what one word names

pub less_none : (w : ℕ) (rs : List ℕ) → w ≡ 0 → less_by w rs ≡ rs
less_none w rs z = cond-true (eqb w 0) rs (less_one (target w) rs) (eq-eqb w 0 z)

pub less_entry : (w : ℕ) (rs : List ℕ) → w ≢ 0 → less_by w rs ≡ less_one (target w) rs
less_entry w rs ne = cond-false (eqb w 0) rs (less_one (target w) rs) (ne_eqb w 0 ne)

-- what leaves the references is what the word names
pub less_times : (w : ℕ) (rs : List ℕ) (h : ℕ) → (w ≢ 0 → Has (target w) rs) → times h (less_by w rs) + times h (targets (w ∷ [])) ≡ times h rs
less_times w rs h ref = ⊎_elim
    (λ (z : w ≡ 0).
    let a = ap (λ (xs : List ℕ). times h xs) (less_none w rs z) in
    let b : times h (targets (w ∷ [])) ≡ 0 = ap (λ (xs : List ℕ). times h xs) (targets_none w z) in
    omega arith)
    (λ (ne : w ≡ 0 → ⊥).
    let a = ap (λ (xs : List ℕ). times h xs) (less_entry w rs ne) in
    let b = ap (λ (xs : List ℕ). times h xs) (targets_one w ne) in
    let c = times_less (target w) rs h (ref ne) in
    omega arith)
    (cases_eq w 0)
