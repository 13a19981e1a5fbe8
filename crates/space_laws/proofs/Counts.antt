-- How many numbers below a limit are in a set that grows.
use Rattle.std.proofs.Common.{◌≡◌, ℕ, zero, suc, ◌+◌, ◌-◌, ◌<◌, ◌≤◌, Bool, true, false, ◌||◌}
use Rattle.std.proofs.Common.{if◌then◌else◌, ◌==◌, inl, inr, refl, arith}
use Rattle.std.proofs.lemmas.Bool.{cases_eq, cases_lt}
use Rattle.std.proofs.lemmas.Bool.Decides.{nat_tests}
use Rattle.machine_model.specs.Machine.{count_below}
use Rattle.space_laws.specs.Growth.{GrowsWithin, none_yet}

pub count-same : (f g : ℕ → Bool) → ((k : ℕ) → f k ≡ g k) → (n : ℕ)
    → count_below f n ≡ count_below g n
unfolding count_below
count-same f g h zero = refl
count-same f g h (suc n) = rw (h n, count-same f g h n) refl

-- ---- one number more

module _ (before after : ℕ → Bool) (at : ℕ)
    (more : (k : ℕ) → after k ≡ (before k || k == at)) where
  count_up_to : (n : ℕ) → n ≤ at → count_below after n ≡ count_below before n
  unfolding count_below
  count_up_to zero le = refl
  count_up_to (suc n) le =
      let h = count_up_to n (omega arith) in
      let e = more n in
      grind (arith, nat_tests)

  pub count-more : (n : ℕ) → at < n
      → count_below after n ≡ count_below before n + none_yet (before at)
  unfolding count_below
  count-more zero lt = absurd (omega arith)
  count-more (suc n) lt =
      elim (cases_eq n at) [
        | inl same ↦ (
            let h = count_up_to n (omega arith) in
            let e = more n in
            rw (← same) (grind (arith, nat_tests)))
        | inr other ↦ (
            let h = count-more n (omega arith) in
            let e = more n in
            grind (arith, nat_tests))
      ]

-- ---- some numbers more, of k + 1 in a row

new_step : (b c : Bool) (x y m k : ℕ) → m < k → y ≤ x + m
    → (if c then y + 1 else y) ≤ (if b then x + 1 else x) + k
new_step true true x y m k lt le = omega arith
new_step true false x y m k lt le = omega arith
new_step false true x y m k lt le = omega arith
new_step false false x y m k lt le = omega arith

old_step : (b c : Bool) (x y m k : ℕ) → m ≤ k → (c ≡ true → b ≡ false → ⊥) → y ≤ x + m
    → (if c then y + 1 else y) ≤ (if b then x + 1 else x) + k
old_step true true x y m k lt old le = omega arith
old_step true false x y m k lt old le = omega arith
old_step false true x y m k lt old le = absurd (old refl refl)
old_step false false x y m k lt old le = omega arith

module _ (before after : ℕ → Bool) (a k : ℕ) (grows : GrowsWithin before after a k) where
  count_among : (n : ℕ) → count_below after n ≤ count_below before n + (n - a)
  unfolding count_below
  count_among zero = omega arith
  count_among (suc n) =
      elim (cases_lt n a) [
        | inl lt ↦ old_step (before n) (after n) _ _ (n - a) (suc n - a) (omega arith)
            (λ p q. let w = grows n p q in omega (arith, w.0)) (count_among n)
        | inr le ↦ new_step (before n) (after n) _ _ (n - a) (suc n - a) (omega arith)
            (count_among n)
      ]

  pub count-grows : (n : ℕ) → count_below after n ≤ count_below before n + (k + 1)
  unfolding count_below
  count-grows zero = omega arith
  count-grows (suc n) =
      elim (cases_lt (a + k) n) [
        | inl lt ↦ old_step (before n) (after n) _ _ (k + 1) (k + 1) (omega arith)
            (λ p q. let w = grows n p q in omega (arith, w.1)) (count-grows n)
        | inr le ↦ few_by (suc n) (omega arith) (count_among (suc n))
      ]
    where
      few_by : (m : ℕ) → m - a ≤ k + 1
          → count_below after m ≤ count_below before m + (m - a)
          → count_below after m ≤ count_below before m + (k + 1)
      few_by m le h = omega arith
