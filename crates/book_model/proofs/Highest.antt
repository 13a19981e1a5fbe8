-- The highest kept layer of a stack, from its end on.
use Rattle.std.proofs.Common.{◌≡◌, ℕ, ◌+◌, ◌-◌, ◌<◌, ◌≤◌, zero, suc, true, false, Bool, List, []}
use Rattle.std.proofs.Common.{◌∷◌, length, drop, get_or, None, Some, refl, sym, ◌∙◌, ap, arith}
use Rattle.std.proofs.Common.{nat_eq, if◌then◌else◌}
use Rattle.std.specs.Prelude.{is_some}
use Rattle.std.specs.Map.{keys_of, lookup}
use Rattle.std.proofs.lemmas.List.{at_drop_more}
use Rattle.journal_model.specs.State.{highest_kept, highest_of, contains}
use Rattle.journal_laws.proofs.Listing.{contains_keys}

-- the highest of the upper layers is the highest of all
highest_up : (kept : List ℕ) (n : ℕ) (xs : List ℕ) (k : ℕ) →
    highest_kept kept (drop n xs) ≡ Some k → highest_kept kept xs ≡ Some k
unfolding highest_kept
highest_up kept zero xs k h = h
highest_up kept (suc n) [] k h = h
highest_up kept (suc n) (x ∷ xs) k h = ap (highest_of kept x) (highest_up kept n xs k h)

-- one layer further down
highest_next : (kept xs : List ℕ) (n i : ℕ) (b : Bool) → n ≡ i + 1 → i < length xs →
    highest_kept kept (drop n xs) ≡ None → contains (get_or xs i 0) kept ≡ b →
    highest_kept kept (drop i xs) ≡ (if b then Some (get_or xs i 0) else None)
unfolding highest_kept
highest_next kept xs n i b e l h c = at_drop_more (highest_kept kept) xs i 0 l
    ∙ (ap (highest_of kept (get_or xs i 0)) (ap (λ m. highest_kept kept (drop m xs)) (sym e) ∙ h)
    ∙ ap (λ z. if z then Some (get_or xs i 0) else None) c)

module _ {V : Type 0} (es : List (ℕ × V)) (xs : List ℕ) (n : ℕ) (b : Bool) where
  abbrev pub IsThere : Type 0
  IsThere = b ≡ is_some (lookup (nat_eq (get_or xs (n - 1) 0)) es)

  -- the layer below is kept
  pub highest_found : 1 ≤ n → n ≤ length xs → highest_kept (keys_of es) (drop n xs) ≡ None →
      IsThere → b ≡ true → Some (get_or xs (n - 1) 0) ≡ highest_kept (keys_of es) xs
  highest_found s l h t y = sym (highest_up (keys_of es) (n - 1) xs (get_or xs (n - 1) 0)
      (highest_next (keys_of es) xs n (n - 1) true (omega (arith, s)) (omega (arith, s, l)) h
      (sym (contains_keys (get_or xs (n - 1) 0) es) ∙ (sym t ∙ y))))

  -- it isn't
  pub highest_below : 1 ≤ n → n ≤ length xs → highest_kept (keys_of es) (drop n xs) ≡ None →
      IsThere → b ≡ false → highest_kept (keys_of es) (drop (n - 1) xs) ≡ None
  highest_below s l h t y =
      highest_next (keys_of es) xs n (n - 1) false (omega (arith, s)) (omega (arith, s, l)) h
      (sym (contains_keys (get_or xs (n - 1) 0) es) ∙ (sym t ∙ y))

-- of no layers none is kept
pub highest_none : (kept : List ℕ) → highest_kept kept [] ≡ None
unfolding highest_kept
highest_none kept = refl
