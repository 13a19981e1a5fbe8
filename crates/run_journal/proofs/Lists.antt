-- Places of lists, and a number taken out of one.
use Rattle.std.proofs.Common.{◌≡◌, ℕ, ◌+◌, ◌<◌, ◌≤◌, ◌==◌, Bool, true, false, cond, not, suc}
use Rattle.std.proofs.Common.{List, [], ◌∷◌, ◌++◌, length, take, drop, remove, refl, ap, arith}
use Rattle.std.specs.List.{position_or_len}
use Rattle.journal_model.specs.State.{without}

at_first : (b : Bool) (y q : ℕ) (w ys : List ℕ) →
    (1 + q < suc (length ys) → w ≡ take q ys ++ drop (suc q) ys) →
    cond (not b) (1 + q) 0 < suc (length ys) →
    cond b ys (y ∷ w) ≡ take (cond (not b) (1 + q) 0) (y ∷ ys)
    ++ drop (suc (cond (not b) (1 + q) 0)) (y ∷ ys)
at_first true y q w ys f h = refl
at_first false y q w ys f h =
    let e : 1 + q ≡ suc q = omega arith in rw e (ap (λ t. y ∷ t) (f h))

-- where the number stands, it is taken out at its place
pub without_is : (x : ℕ) (xs : List ℕ) → position_or_len (λ (y : ℕ). y == x) xs < length xs →
    without x xs ≡ remove xs (position_or_len (λ (y : ℕ). y == x) xs)
unfolding without
without_is x [] h = absurd (omega arith)
without_is x (y ∷ ys) h = at_first (y == x) y (position_or_len (λ (y : ℕ). y == x) ys)
    (without x ys) ys (λ k. without_is x ys (omega arith)) h

past : (b : Bool) (y q : ℕ) (w ys : List ℕ) → (length ys ≤ q → w ≡ ys) →
    suc (length ys) ≤ cond (not b) (1 + q) 0 → cond b ys (y ∷ w) ≡ y ∷ ys
past true y q w ys f h = absurd (omega arith)
past false y q w ys f h = ap (λ t. y ∷ t) (f (omega arith))

-- where it stands nowhere, all stays
pub without_absent : (x : ℕ) (xs : List ℕ) →
    length xs ≤ position_or_len (λ (y : ℕ). y == x) xs → without x xs ≡ xs
unfolding without
without_absent x [] h = refl
without_absent x (y ∷ ys) h = past (y == x) y (position_or_len (λ (y : ℕ). y == x) ys)
    (without x ys) ys (λ k. without_absent x ys k) h
