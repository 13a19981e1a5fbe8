-- What comes back to a shelf over copied pages, one after the other.
use Rattle.std.proofs.Common.{◌≡◌, ℕ, ◌+◌, List, [], ◌∷◌, ◌++◌, refl, sym, ap, ◌∙◌, arith, subst}
use Rattle.std.specs.Prelude.{All, Some}
use Rattle.std.specs.List.{AllByRecursion, sum_by}
use Rattle.std.proofs.lemmas.List.Elements.{All-pop}
use Rattle.std.proofs.lemmas.List.Sums.{sum_by-cons, sum_by_push}
use Rattle.space_api.specs.Holding.{Stocked, with_returned}

-- the shelf with another free number and another stake
abbrev stocked_with : (free stake : ℕ) → Stocked → Stocked
stocked_with free stake shelf = record shelf { free = free; stake = stake }

same_with : (shelf : Stocked) (f g s t : ℕ) → f ≡ g → s ≡ t →
    stocked_with f s shelf ≡ stocked_with g t shelf
same_with shelf f g s t e h =
    ap (λ n. stocked_with n s shelf) e ∙ ap (λ n. stocked_with g n shelf) h

-- what comes back in two parts, the first with no frames
twice_returned : (n a b : ℕ) (shelf : Stocked) → n ≡ 0 →
    with_returned 0 b (with_returned n a shelf) ≡ with_returned 0 (a + b) shelf
twice_returned n a b shelf z = same_with shelf (shelf.free + n + 0) (shelf.free + 0)
    (shelf.stake + a + b) (shelf.stake + (a + b)) (omega (arith, z)) (omega arith)

-- where nothing comes back, it is as it was
pub none_returned : (shelf : Stocked) → with_returned 0 0 shelf ≡ shelf
none_returned shelf = same_with shelf (shelf.free + 0) shelf.free (shelf.stake + 0) shelf.stake
    (omega arith) (omega arith)

-- ---- what is left of a list

module _ {X : Type 0} where
  -- all of it holds at first
  pub all_more : (P : X → Type 0) (all left : List X) → left ≡ all → AllByRecursion P all →
      AllByRecursion P left
  all_more P all left e h = subst (AllByRecursion P) (sym e) h

  -- of the first that is left, and of the rest
  pub all_first : (P : X → Type 0) (left rest : List X) (x : X) → left ≡ x ∷ rest →
      AllByRecursion P left → P x
  all_first P left rest x e h = (subst (AllByRecursion P) e h).0

  pub all_rest : (P : X → Type 0) (left rest : List X) (x : X) → left ≡ x ∷ rest →
      AllByRecursion P left → AllByRecursion P rest
  all_rest P left rest x e h = (subst (AllByRecursion P) e h).1

  -- of the last that is left, and of those before it
  pub all_last : (P : X → Type 0) (left rest : List X) (x : X) → left ≡ rest ++ x ∷ [] →
      All P left → P x
  all_last P left rest x e h = (All-pop P left rest (Some x) e h).1

  pub all_before : (P : X → Type 0) (left rest : List X) (x : X) → left ≡ rest ++ x ∷ [] →
      All P left → All P rest
  all_before P left rest x e h = (All-pop P left rest (Some x) e h).0

  -- nothing came back yet
  pub none_back : (f : X → ℕ) (all left : List X) (shelf : Stocked) → left ≡ all →
      with_returned 0 (sum_by f left) shelf ≡ with_returned 0 (sum_by f all) shelf
  none_back f all left shelf e = ap (λ xs. with_returned 0 (sum_by f xs) shelf) e

  -- one part more, of those that are left
  pub more_back : (f : X → ℕ) (left rest : List X) (x : X) (n a all : ℕ)
      (first old new : Stocked) → left ≡ x ∷ rest → n ≡ 0 → a ≡ f x →
      new ≡ with_returned n a old →
      with_returned 0 (sum_by f left) old ≡ with_returned 0 all first →
      with_returned 0 (sum_by f rest) new ≡ with_returned 0 all first
  more_back f left rest x n a all first old new l z e h k =
      ap (with_returned 0 (sum_by f rest)) h
      ∙ (twice_returned n a (sum_by f rest) old z ∙ (ap (λ m. with_returned 0 m old)
      (omega (arith, e, ap (sum_by f) l, sum_by-cons f x rest)) ∙ k))

  -- all came back
  pub all_back : (f : X → ℕ) (left : List X) (all : ℕ) (first now : Stocked) → left ≡ [] →
      with_returned 0 (sum_by f left) now ≡ with_returned 0 all first →
      now ≡ with_returned 0 all first
  all_back f left all first now e h = sym (none_returned now)
      ∙ (ap (λ xs. with_returned 0 (sum_by f xs) now) (sym e) ∙ h)

  -- the last one of those that are left
  pub last_back : (f : X → ℕ) (left rest : List X) (x : X) (n a all : ℕ)
      (first old new : Stocked) → left ≡ rest ++ x ∷ [] → n ≡ 0 → a ≡ f x →
      new ≡ with_returned n a old →
      with_returned 0 (sum_by f left) old ≡ with_returned 0 all first →
      with_returned 0 (sum_by f rest) new ≡ with_returned 0 all first
  last_back f left rest x n a all first old new l z e h k =
      ap (with_returned 0 (sum_by f rest)) h
      ∙ (twice_returned n a (sum_by f rest) old z ∙ (ap (λ m. with_returned 0 m old)
      (omega (arith, e, ap (sum_by f) l, sum_by_push f rest x)) ∙ k))

-- three shares come back, one after the other
pub thrice_returned : (a b c : ℕ) (first second third last : Stocked) →
    second ≡ with_returned 0 a first → third ≡ with_returned 0 b second →
    last ≡ with_returned 0 c third → last ≡ with_returned 0 (a + b + c) first
thrice_returned a b c first second third last h k l = l ∙ (ap (with_returned 0 c) (k
    ∙ (ap (with_returned 0 b) h ∙ twice_returned 0 a b first refl))
    ∙ twice_returned 0 (a + b) c first refl)
