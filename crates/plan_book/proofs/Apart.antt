-- What a book held is loose, and comes back.
use Rattle.std.proofs.Common.{◌≡◌, ℕ, ◌+◌, List, [], ◌∷◌, map, get_or, Option, None, Some, refl}
use Rattle.std.proofs.Common.{sym, ap, arith, subst}
use Rattle.std.specs.Prelude.{All}
use Rattle.std.specs.List.{AllByRecursion, slice_get, sum_by}
use Rattle.std.proofs.lemmas.List.Sums.{sum_by-cons}
use Rattle.std.proofs.lemmas.Option.{slice_get-get_or}
use Rattle.book_log.specs.declared.started.Started.{Started}
use Rattle.book_model.specs.Kept.{IsImageOf, IsLayerOf, IsWaiting}
use Rattle.journal_model.specs.State.{State}
use Rattle.plan_book.proofs.Slots.{under_all, under_sum}
use Rattle.slab.specs.Slab.{Slab, entries}
use Rattle.slot_lists.specs.Held.{AreUnder}
use Rattle.slot_lists.specs.Lists.{Waiting}
use Rattle.space_api.specs.Holding.{Pin}
use Rattle.space_api.specs.Told.{KeptLayer, ParkedContext}

module _ {A B : Type 0} (f : A → B) where
  all_mapped : (P : B → Type 0) (Q : A → Type 0) → ((a : A) → Q a → P (f a)) → (xs : List A) →
      AllByRecursion Q xs → AllByRecursion P (map f xs)
  all_mapped P Q h [] all = tt
  all_mapped P Q h (x ∷ xs) all = (h x all.0, all_mapped P Q h xs all.1)

  sum_mapped : (part : B → ℕ) (xs : List A) →
      sum_by part (map f xs) ≡ sum_by (λ x. part (f x)) xs
  sum_mapped part [] = refl
  sum_mapped part (x ∷ xs) = omega (
    arith,
    sum_by-cons part (f x) (map f xs),
    sum_by-cons (λ y. part (f y)) x xs,
    sum_mapped part xs,
  )

-- each context that waited
pub contexts_loose : {C : Type 0} (parked : C → ParkedContext) (pin : C → Option Pin)
    (is_context : C → Type 0) (s : State) (started : List Started) (idle : List (ℕ × Waiting C))
    (slab : Slab C) → AllByRecursion (λ (e : ℕ × Waiting C). is_context e.1.context
    × IsWaiting s started e.0 e.1.function (parked e.1.context) (pin e.1.context)) idle →
    AreUnder (map (λ (e : ℕ × Waiting C). e.1.context) idle) slab →
    AllByRecursion (λ (e : ℕ × C). pin e.1 ≡ None) (entries slab)
contexts_loose {C} parked pin is_context s started idle slab all under =
    under_all (λ (c : C). pin c ≡ None) (map (λ (e : ℕ × Waiting C). e.1.context) idle) slab under
    (all_mapped (λ (e : ℕ × Waiting C). e.1.context) (λ (c : C). pin c ≡ None)
    (λ (e : ℕ × Waiting C). is_context e.1.context
    × IsWaiting s started e.0 e.1.function (parked e.1.context) (pin e.1.context))
    (λ e is. is.1.loose) idle all)

-- each layer that was kept
pub layers_loose : {L : Type 0} (kept : L → KeptLayer) (pin : L → Option Pin)
    (is_layer : L → Type 0) (list : List (ℕ × L)) (slab : Slab L) →
    AllByRecursion (λ (e : ℕ × L). is_layer e.1 × IsLayerOf e.0 (kept e.1) (pin e.1)) list →
    AreUnder (map (λ (e : ℕ × L). e.1) list) slab →
    AllByRecursion (λ (e : ℕ × L). pin e.1 ≡ None) (entries slab)
layers_loose {L} kept pin is_layer list slab all under =
    under_all (λ (l : L). pin l ≡ None) (map (λ (e : ℕ × L). e.1) list) slab under
    (all_mapped (λ (e : ℕ × L). e.1) (λ (l : L). pin l ≡ None)
    (λ (e : ℕ × L). is_layer e.1 × IsLayerOf e.0 (kept e.1) (pin e.1)) (λ e is. is.1.loose) list
    all)

-- each image
pub images_loose : {L : Type 0} (kept : L → KeptLayer) (pin : L → Option Pin)
    (is_layer : L → Type 0) (images closed : List L) →
    ((start : ℕ) (image : L) → slice_get images start ≡ Some image →
    is_layer image × IsImageOf start (kept image) (pin image)) → closed ≡ images →
    All (λ (l : L). pin l ≡ None) closed
images_loose {L} kept pin is_layer images closed h e =
    subst (λ (ls : List L). All (λ (l : L). pin l ≡ None) ls) (sym e)
    (λ k d b. (h k (get_or images k d) (slice_get-get_or images k d b)).1.loose)

-- all their stakes are what the book had
pub same_stakes : {C L : Type 0} (f : C → ℕ) (g : L → ℕ) (idle : List (ℕ × Waiting C))
    (kept : List (ℕ × L)) (images closed : List L) (contexts : Slab C) (layers : Slab L) →
    AreUnder (map (λ (e : ℕ × Waiting C). e.1.context) idle) contexts →
    AreUnder (map (λ (e : ℕ × L). e.1) kept) layers → closed ≡ images →
    sum_by (λ (e : ℕ × C). f e.1) (entries contexts)
    + sum_by (λ (e : ℕ × L). g e.1) (entries layers) + sum_by g closed
    ≡ sum_by (λ (e : ℕ × Waiting C). f e.1.context) idle
    + sum_by (λ (e : ℕ × L). g e.1) kept + sum_by g images
same_stakes {C} {L} f g idle kept images closed contexts layers u v e =
    omega (
      arith,
      under_sum f (map (λ (e : ℕ × Waiting C). e.1.context) idle) contexts u,
      sum_mapped (λ (e : ℕ × Waiting C). e.1.context) f idle,
      under_sum g (map (λ (e : ℕ × L). e.1) kept) layers v,
      sum_mapped (λ (e : ℕ × L). e.1) g kept,
      ap (sum_by g) e,
    )
