-- Lists in which no number stands twice.
use Rattle.std.proofs.Common.{◌≡◌, ℕ, ◌==◌, Bool, true, false, List, [], ◌∷◌, ◌⊎◌, inl, inr, refl}
use Rattle.std.proofs.Common.{sym, nat_eq, arith}
use Rattle.std.specs.List.{IsDistinct, AllByRecursion}
use Rattle.std.proofs.lemmas.Bool.Decides.{nat_tests}

-- the number stands in the list
abbrev pub Has : ℕ → List ℕ → Type 0
Has x [] = ⊥
Has x (y ∷ ys) = (y ≡ x) ⊎ Has x ys

-- no number stands twice
abbrev pub IsApart : List ℕ → Type 0
IsApart [] = Unit {0}
IsApart (x ∷ xs) = (Has x xs → ⊥) × IsApart xs

differ : (a b : ℕ) → (a == b) ≡ false → a ≡ b → ⊥
differ a b h e = grind (arith, nat_tests)

same : (a b : ℕ) → (a == b) ≡ true → a ≡ b
same a b h = grind (arith, nat_tests)

apart_from : (x : ℕ) (xs : List ℕ) → AllByRecursion (λ y. nat_eq x y ≡ false) xs →
    Has x xs → ⊥
apart_from x [] a h = h
apart_from x (y ∷ ys) a h = elim h [
  | inl e ↦ differ x y a.0 (sym e)
  | inr k ↦ apart_from x ys a.1 k
]

not_eq : (x y : ℕ) → (y ≡ x → ⊥) → (b : Bool) → nat_eq x y ≡ b → b ≡ false
not_eq x y h true e = absurd (h (sym (same x y e)))
not_eq x y h false e = refl

apart_to : (x : ℕ) (xs : List ℕ) → (Has x xs → ⊥) →
    AllByRecursion (λ y. nat_eq x y ≡ false) xs
apart_to x [] h = tt
apart_to x (y ∷ ys) h =
    (not_eq x y (λ e. h (inl e)) (nat_eq x y) refl, apart_to x ys (λ k. h (inr k)))

-- it is std's list of keys that differ by their test
pub distinct_apart : (xs : List ℕ) → IsDistinct nat_eq xs → IsApart xs
unfolding IsDistinct
distinct_apart [] d = tt
distinct_apart (x ∷ xs) d = (apart_from x xs d.0, distinct_apart xs d.1)

pub apart_distinct : (xs : List ℕ) → IsApart xs → IsDistinct nat_eq xs
unfolding IsDistinct
apart_distinct [] d = tt
apart_distinct (x ∷ xs) d = (apart_to x xs d.0, apart_distinct xs d.1)
