-- Which idle context is found, and its values and slots side by side.
use Rattle.std.proofs.Common.{◌≡◌, ℕ, ◌==◌, cond, List, [], ◌∷◌, Option, None, Some, refl, sym}
use Rattle.std.proofs.Common.{ap, ◌∙◌, map, false, arith}
use Rattle.std.specs.Prelude.{slice_index_or, IsSome, nat_eq}
use Rattle.std.specs.List.{AllByRecursion, AllZip, IsDistinct}
use Rattle.std.proofs.lemmas.Bool.Decides.{nat_tests}
use Rattle.cache_lists.specs.Idle.{first_of}
use Rattle.cache_lists.specs.declared.idle_list.IdleContext.{IdleContext as Idle}
use Rattle.slot_lists.specs.Held.{held, with_held, held_contexts, idle_slot, idle_made, AreFound}
use Rattle.slot_lists.specs.Held.{AreApart, IsApartFrom}
use Rattle.slot_lists.specs.Lists.{Waiting, first_waiting}

module _ {C : Type 0} where
  first_one : (f key : ℕ) (e : Idle) (o : Option C) (rest : List (ℕ × Waiting C)) → IsSome o
      → first_waiting f (with_held idle_slot idle_made key e o rest)
      ≡ cond (e.function == f) (Some key) (first_waiting f rest)
  first_one f key e None rest h = absurd (cc)
  first_one f key e (Some v) rest h = refl

  -- the first context of a function is the first among the entries with their contexts
  pub held_first : (f : ℕ) (slots : List (Option C)) (es : List (ℕ × Idle))
      → AreFound idle_slot slots es
      → first_waiting f (held_contexts slots es) ≡ first_of f es
  unfolding held
  held_first f slots [] h = refl
  held_first f slots (e ∷ es) h =
      first_one f e.0 e.1 (slice_index_or slots e.1.slot None) (held_contexts slots es) h.0
      ∙ ap (λ o. cond (e.1.function == f) (Some e.0) o) (held_first f slots es h.1)

tests_differ : (a b : ℕ) → (a ≡ b → ⊥) → nat_eq a b ≡ false
tests_differ a b h = grind (arith, nat_tests)

module _ {E : Type 0} (slot : E → ℕ) where
  all_tests : (key : ℕ) (es : List (ℕ × E)) → IsApartFrom slot key es
      → AllByRecursion (λ y. nat_eq key y ≡ false) (map (λ (e : ℕ × E). slot e.1) es)
  all_tests key [] h = tt
  all_tests key (e ∷ es) h = (tests_differ key (slot e.1) h.0, all_tests key es h.1)

  -- slots that are apart are distinct
  pub slots_distinct : (es : List (ℕ × E)) → AreApart slot es
      → IsDistinct nat_eq (map (λ (e : ℕ × E). slot e.1) es)
  unfolding IsDistinct
  slots_distinct [] h = tt
  slots_distinct (e ∷ es) h = (all_tests (slot e.1) es h.0, slots_distinct es h.1)

module _ {E V W : Type 0} (slot : E → ℕ) (made : E → V → W) (value : W → V)
    (undoes : (e : E) (v : V) → value (made e v) ≡ v) where
  zip_one : (slots : List (Option V)) (e : ℕ × E) (o : Option V) (ws : List (ℕ × W)) (ks : List ℕ)
      → slice_index_or slots (slot e.1) None ≡ o → IsSome o
      → AllZip (λ (v : V) (k : ℕ). slice_index_or slots k None ≡ Some v)
      (map (λ (w : ℕ × W). value w.1) ws) ks
      → AllZip (λ (v : V) (k : ℕ). slice_index_or slots k None ≡ Some v)
      (map (λ (w : ℕ × W). value w.1) (with_held slot made e.0 e.1 o ws)) (slot e.1 ∷ ks)
  zip_one slots e None ws ks q h z = absurd (cc)
  zip_one slots e (Some v) ws ks q h z = (q ∙ ap (λ x. Some x) (sym (undoes e.1 v)), z)

  -- each value stands under its slot
  pub held_zip : (slots : List (Option V)) (es : List (ℕ × E)) → AreFound slot slots es
      → AllZip (λ (v : V) (k : ℕ). slice_index_or slots k None ≡ Some v)
      (map (λ (w : ℕ × W). value w.1) (held slot made slots es))
      (map (λ (e : ℕ × E). slot e.1) es)
  unfolding held
  held_zip slots [] h = tt
  held_zip slots (e ∷ es) h =
      zip_one slots e (slice_index_or slots (slot e.1) None) (held slot made slots es)
      (map (λ (f : ℕ × E). slot f.1) es) refl h.0 (held_zip slots es h.1)
