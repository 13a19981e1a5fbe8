-- Facts on the entries of lists.
use Rattle.std.proofs.Common.{◌≡◌, ℕ, Bool, true, false, List, [], ◌∷◌, Some}
use Rattle.std.proofs.Common.{refl, sym, ◌∙◌, ap, subst, nat_eq, inl, inr}
use Rattle.std.specs.List.{AllByRecursion}
use Rattle.std.specs.Map.{keys_of, lookup, remove_entry}
use Rattle.std.proofs.lemmas.Option.{none-some, same_Some}
use Rattle.journal_model.proofs.Apart.{Has}
use Rattle.journal_model.proofs.Recents.{same}

module _ {V : Type 0} (P : ℕ × V → Type 0) where
  -- from one fact on each entry to another, which may use that its key is there
  pub all_kept : (Q : ℕ × V → Type 0) (es : List (ℕ × V)) →
      ((e : ℕ × V) → Has e.0 (keys_of es) → P e → Q e) → AllByRecursion P es →
      AllByRecursion Q es
  all_kept Q [] f h = tt
  all_kept Q (e ∷ es) f h =
      (f e (inl refl) h.0, all_kept Q es (λ d k. f d (inr k)) h.1)

  found_at : (k : ℕ) (e : ℕ × V) (v : V) (b : Bool) → nat_eq k e.0 ≡ b → b ≡ true →
      e.1 ≡ v → P e → P (k, v)
  found_at k e v b n t i h = subst P
      (ap (λ (x : ℕ). (x, e.1)) (sym (same k e.0 (n ∙ t))) ∙ ap (λ (y : V). (k, y)) i) h

  -- what is looked up has the fact
  pub all_lookup : (k : ℕ) (es : List (ℕ × V)) (v : V) → AllByRecursion P es →
      lookup (nat_eq k) es ≡ Some v → P (k, v)
  all_lookup k [] v h l = absurd (none-some v l)
  all_lookup k (e ∷ es) v h l = (elim (nat_eq k e.0) as (λ b. nat_eq k e.0 ≡ b → P (k, v)) [
    | true ↦ λ t. found_at k e v true t refl
        (same_Some e.1 v (let l' = rw t at l in l')) h.0
    | false ↦ λ t. all_lookup k es v h.1 (let l' = rw t at l in l')
  ]) refl

  -- the others keep it
  pub all_removed : (k : ℕ) (es : List (ℕ × V)) → AllByRecursion P es →
      AllByRecursion P (remove_entry (nat_eq k) es)
  all_removed k [] h = tt
  all_removed k (e ∷ es) h = (elim (nat_eq k e.0) as (λ b. nat_eq k e.0 ≡ b
      → AllByRecursion P (remove_entry (nat_eq k) (e ∷ es))) [
        | true ↦ λ t. rw t h.1
        | false ↦ λ t. let r = all_removed k es h.1 in rw t (h.0, r)
      ]) refl
