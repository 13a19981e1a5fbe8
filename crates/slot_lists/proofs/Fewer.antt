-- The entries that are left where one is taken out, or the last one goes.
use Rattle.std.proofs.Common.{◌≡◌, ◌≢◌, ℕ, zero, suc, ◌+◌, Bool, true, false, cond, List, [], ◌∷◌}
use Rattle.std.proofs.Common.{length, take, Option, None, Some, refl, sym, ap, subst, arith}
use Rattle.std.proofs.lemmas.Option.{none-some, same_Some}
use Rattle.std.specs.List.{slice_get, AllByRecursion}
use Rattle.std.specs.Map.{lookup, remove_entry}
use Rattle.slot_lists.specs.Held.{AreApart, IsApartFrom}

module _ {E : Type 0} where
  -- ---- one is taken out

  all_either : (P : ℕ × E → Type 0) (b : Bool) (xs ys : List (ℕ × E)) → AllByRecursion P xs
      → AllByRecursion P ys → AllByRecursion P (cond b xs ys)
  all_either P true xs ys h k = h
  all_either P false xs ys h k = k

  pub all_remove : (P : ℕ × E → Type 0) (test : ℕ → Bool) (es : List (ℕ × E))
      → AllByRecursion P es → AllByRecursion P (remove_entry test es)
  all_remove P test [] h = tt
  all_remove P test (e ∷ es) h =
      all_either P (test e.0) es (e ∷ remove_entry test es) h.1 (h.0, all_remove P test es h.1)

  found_either : (P : E → Type 0) (b : Bool) (y x : E) (o : Option E) → P y
      → (o ≡ Some x → P x) → cond b (Some y) o ≡ Some x → P x
  found_either P true y x o p f h = subst P (same_Some y x h) p
  found_either P false y x o p f h = f h

  -- what holds of all holds of one that is found
  pub all_lookup : (P : E → Type 0) (test : ℕ → Bool) (es : List (ℕ × E)) (x : E)
      → AllByRecursion (λ (e : ℕ × E). P e.1) es → lookup test es ≡ Some x → P x
  all_lookup P test [] x h l = absurd (none-some x l)
  all_lookup P test (e ∷ es) x h l =
      found_either P (test e.0) e.1 x (lookup test es) h.0 (all_lookup P test es x h.1) l

  fewer_either : (b : Bool) (y x : E) (o : Option E) (xs ys : List (ℕ × E)) (n : ℕ)
      → length xs + 1 ≡ n → (o ≡ Some x → length ys + 1 ≡ n) → cond b (Some y) o ≡ Some x
      → length (cond b xs ys) + 1 ≡ n
  fewer_either true y x o xs ys n p f h = p
  fewer_either false y x o xs ys n p f h = f h

  suc_fewer : (xs es : List (ℕ × E)) → length xs + 1 ≡ length es
      → suc (length xs) + 1 ≡ suc (length es)
  suc_fewer xs es h = omega arith

  -- one that is found goes
  pub one_fewer : (test : ℕ → Bool) (es : List (ℕ × E)) (x : E) → lookup test es ≡ Some x
      → length (remove_entry test es) + 1 ≡ length es
  one_fewer test [] x l = absurd (none-some x l)
  one_fewer test (e ∷ es) x l =
      fewer_either (test e.0) e.1 x (lookup test es) es (e ∷ remove_entry test es) (suc (length es))
      (omega arith) (λ g. suc_fewer (remove_entry test es) es (one_fewer test es x g)) l

  none_either : (b : Bool) (y : E) (o : Option E) (e : ℕ × E) (ys es : List (ℕ × E))
      → (o ≡ None → ys ≡ es) → cond b (Some y) o ≡ None → cond b es (e ∷ ys) ≡ e ∷ es
  none_either true y o e ys es f h = absurd (none-some y (sym h))
  none_either false y o e ys es f h = ap (λ zs. e ∷ zs) (f h)

  -- where none is found none goes
  pub none_fewer : (test : ℕ → Bool) (es : List (ℕ × E)) → lookup test es ≡ None
      → remove_entry test es ≡ es
  none_fewer test [] l = refl
  none_fewer test (e ∷ es) l =
      none_either (test e.0) e.1 (lookup test es) e (remove_entry test es) es
      (none_fewer test es) l

  -- ---- the last one goes

  pub all_take : (P : ℕ × E → Type 0) (n : ℕ) (es : List (ℕ × E)) → AllByRecursion P es
      → AllByRecursion P (take n es)
  all_take P zero [] h = tt
  all_take P (suc n) [] h = tt
  all_take P zero (e ∷ es) h = tt
  all_take P (suc n) (e ∷ es) h = (h.0, all_take P n es h.1)

  pub all_get : (P : ℕ × E → Type 0) (es : List (ℕ × E)) (i : ℕ) (x : ℕ × E)
      → AllByRecursion P es → slice_get es i ≡ Some x → P x
  all_get P [] i x h g = absurd (none-some x g)
  all_get P (e ∷ es) zero x h g = subst P (same_Some e x g) h.0
  all_get P (e ∷ es) (suc i) x h g = all_get P es i x h.1 g

module _ {E : Type 0} (slot : E → ℕ) where
  apart_either : (b : Bool) (xs ys : List (ℕ × E)) → AreApart slot xs → AreApart slot ys
      → AreApart slot (cond b xs ys)
  apart_either true xs ys h k = h
  apart_either false xs ys h k = k

  pub apart_remove : (test : ℕ → Bool) (es : List (ℕ × E)) → AreApart slot es
      → AreApart slot (remove_entry test es)
  apart_remove test [] h = tt
  apart_remove test (e ∷ es) h =
      apart_either (test e.0) es (e ∷ remove_entry test es) h.1
      (all_remove (λ f. slot e.1 ≢ slot f.1) test es h.0, apart_remove test es h.1)

  differs_either : (b : Bool) (y x : E) (o : Option E) (xs ys : List (ℕ × E))
      → IsApartFrom slot (slot y) xs → (o ≡ Some x → IsApartFrom slot (slot x) ys)
      → cond b (Some y) o ≡ Some x → IsApartFrom slot (slot x) (cond b xs ys)
  differs_either true y x o xs ys p f h =
      subst (λ z. IsApartFrom slot (slot z) xs) (same_Some y x h) p
  differs_either false y x o xs ys p f h = f h

  -- the others have other slots than the one that is taken out
  pub differs_remove : (test : ℕ → Bool) (es : List (ℕ × E)) (x : E) → AreApart slot es
      → lookup test es ≡ Some x → IsApartFrom slot (slot x) (remove_entry test es)
  differs_remove test [] x h l = tt
  differs_remove test (e ∷ es) x h l =
      differs_either (test e.0) e.1 x (lookup test es) es (e ∷ remove_entry test es) h.0
      (λ g. (
        λ q. all_lookup (λ f. slot e.1 ≢ slot f) test es x h.0 g (sym q),
        differs_remove test es x h.1 g,
      )) l

  pub apart_take : (n : ℕ) (es : List (ℕ × E)) → AreApart slot es → AreApart slot (take n es)
  apart_take zero [] h = tt
  apart_take (suc n) [] h = tt
  apart_take zero (e ∷ es) h = tt
  apart_take (suc n) (e ∷ es) h =
      (all_take (λ f. slot e.1 ≢ slot f.1) n es h.0, apart_take n es h.1)

  -- those before it have other slots
  pub differs_take : (n : ℕ) (es : List (ℕ × E)) (x : ℕ × E) → AreApart slot es
      → slice_get es n ≡ Some x → IsApartFrom slot (slot x.1) (take n es)
  differs_take zero [] x h g = tt
  differs_take (suc n) [] x h g = tt
  differs_take zero (e ∷ es) x h g = tt
  differs_take (suc n) (e ∷ es) x h g = (
    λ q. all_get (λ f. slot e.1 ≢ slot f.1) es n x h.0 g (sym q),
    differs_take n es x h.1 g,
  )
