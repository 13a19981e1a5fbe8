-- A layer of a plan is there, or one layer of its stack isn't, for a reason.
use Rattle.std.proofs.Common.{◌≡◌, ◌⊎◌, inl, inr, ℕ, zero, suc, ◌<◌, ◌==◌, ◌||◌, Bool, true, false}
use Rattle.std.proofs.Common.{List, [], ◌∷◌, ◌++◌, Option, None, Some, slice_get, IfSome, IsSomeAnd}
use Rattle.std.proofs.Common.{refl, sym, ◌∙◌, ap, subst, arith}
use Rattle.std.proofs.lemmas.Bool.Decides.{nat_tests}
use Rattle.journal_model.specs.State.{contains}
use Rattle.layer_laws.proofs.Standing.{below_of, image_there, layer_or_reason}
use Rattle.layer_laws.proofs.Standing.{layer_place, layer_under}
use Rattle.layer_laws.proofs.Standing.{lower_of, not_both}
use Rattle.layer_laws.proofs.Validity.{at_some}
use Rattle.layer_model.proofs.Places.{layers_on}
use Rattle.layer_model.specs.Layers.{layers_to, IsPlace, IsLayer, IsNoLayer}
use Rattle.machine_model.specs.Machine.{Machine}
use Rattle.machine_model.specs.declared.stop.Stop.{Stop}
use Rattle.plan_model.specs.Outline.{Outline, IsPlan}
use Rattle.plan_model.specs.Stacks.{layer_below, stack, StandLower}
use Rattle.plan_model.specs.declared.layer.PlanLayer.{PlanLayer}

-- ---- which layers are in a stack

or_true : (a b : Bool) → b ≡ true → (a || b) ≡ true
or_true true b h = refl
or_true false b h = h

or_front : (a b c : Bool) → (a || b) ≡ true → (b ≡ true → c ≡ true) → (a || c) ≡ true
or_front true b c h f = refl
or_front false b c h f = f h

or_parts : (P : Type 0) (a b c : Bool) → (a || b) ≡ true → (b ≡ true → (c ≡ true) ⊎ P)
    → ((a || c) ≡ true) ⊎ P
or_parts P true b c h f = inl refl
or_parts P false b c h f = f h

is_same : (a b : ℕ) → (a == b) ≡ true → a ≡ b
is_same a b h = grind (arith, nat_tests)

same_is : (a : ℕ) → (a == a) ≡ true
same_is a = grind (arith, nat_tests)

contains_front : (j : ℕ) (xs ys : List ℕ) → contains j xs ≡ true → contains j (xs ++ ys) ≡ true
unfolding contains
contains_front j [] ys h = cc
contains_front j (x ∷ xs) ys h =
    or_front (x == j) (contains j xs) (contains j (xs ++ ys)) h (contains_front j xs ys)

contains_last : (j : ℕ) (xs : List ℕ) → contains j (xs ++ j ∷ []) ≡ true
unfolding contains
contains_last j [] = rw (same_is j) refl
contains_last j (x ∷ xs) = or_true (x == j) (contains j (xs ++ j ∷ [])) (contains_last j xs)

none_in : (j : ℕ) → contains j [] ≡ true → ⊥
unfolding contains
none_in j h = cc

contains_parts : (j k : ℕ) (xs : List ℕ) → contains j (xs ++ k ∷ []) ≡ true
    → (contains j xs ≡ true) ⊎ (j ≡ k)
unfolding contains
contains_parts j k [] h = last (k == j) refl h where
  last : (b : Bool) → (k == j) ≡ b → (b || false) ≡ true → (false ≡ true) ⊎ (j ≡ k)
  last true e h = inr (sym (is_same k j e))
  last false e h = inl h
contains_parts j k (x ∷ xs) h =
    or_parts (j ≡ k) (x == j) (contains j (xs ++ k ∷ [])) (contains j xs) h (contains_parts j k xs)

pub is_on_top : (layers : List PlanLayer) (k : ℕ) → StandLower layers
    → contains k (stack layers k) ≡ true
is_on_top layers k lower =
    subst (λ ks. contains k ks ≡ true) (sym (layers_on layers k lower))
    (contains_last k (layers_to layers (layer_below layers k)))

below_it : (layers : List PlanLayer) (j k b : ℕ) → StandLower layers
    → layer_below layers k ≡ Some b → contains j (stack layers b) ≡ true
    → contains j (stack layers k) ≡ true
below_it layers j k b lower is h =
    subst (λ ks. contains j ks ≡ true)
    (ap (λ o. layers_to layers o ++ k ∷ []) (sym is) ∙ sym (layers_on layers k lower))
    (contains_front j (stack layers b) (k ∷ []) h)

-- a layer is the top one of a stack, or one of the stack below
abbrev Part : List PlanLayer → (k j : ℕ) → Type 0
Part layers k j = (j ≡ k)
    ⊎ ((b : ℕ) × (layer_below layers k ≡ Some b) × (contains j (stack layers b) ≡ true))

-- each layer of a stack is
in_stack : (layers : List PlanLayer) (j k : ℕ) → StandLower layers
    → contains j (stack layers k) ≡ true
    → Part layers k j
in_stack layers j k lower h =
    by_below (layer_below layers k) refl
    (subst (λ ks. contains j ks ≡ true) (layers_on layers k lower) h) where
      by_part : (b : ℕ) → layer_below layers k ≡ Some b
          → (contains j (stack layers b) ≡ true) ⊎ (j ≡ k)
          → Part layers k j
      by_part b is (inl front) = inr (b, is, front)
      by_part b is (inr same) = inl same

      alone : (contains j [] ≡ true) ⊎ (j ≡ k)
          → Part layers k j
      alone (inl none) = absurd (none_in j none)
      alone (inr same) = inl same

      by_below : (below : Option ℕ) → layer_below layers k ≡ below
          → contains j (layers_to layers below ++ k ∷ []) ≡ true
          → Part layers k j
      by_below None is h = alone (contains_parts j k [] h)
      by_below (Some b) is h = by_part b is (contains_parts j k (stack layers b) h)

-- ---- there, or not

module _ (plan : Outline) (is : IsPlan plan) where
  abbrev StopsBelow : ℕ → Type 0
  StopsBelow k = (lower : ℕ) × (why : Stop) × (contains lower (stack plan.layers k) ≡ true)
      × IsNoLayer plan lower why

  abbrev ThereOrNot : ℕ → Type 0
  ThereOrNot k = ((m : Machine) × IsLayer plan k m) ⊎ StopsBelow k

  here : (k : ℕ) → ((m : Machine) × IsLayer plan k m) ⊎ ((why : Stop) × IsNoLayer plan k why)
      → ThereOrNot k
  here k (inl there) = inl there
  here k (inr (why, none)) = inr (k, why, is_on_top plan.layers k (lower_of plan is), none)

  above : (k b : ℕ) (layer : PlanLayer) → slice_get plan.layers k ≡ Some layer
      → layer.below ≡ Some b → ThereOrNot b → ThereOrNot k
  above k b layer found stands (inl (m, there)) =
      here k (layer_or_reason plan k layer m is found
      ((layer_under plan k b layer m is found stands).0 there))
  above k b layer found stands (inr (j, why, within, none)) =
      inr (
        j,
        why,
        below_it plan.layers j k b (lower_of plan is)
            (below_of plan k layer found ∙ stands) within,
        none,
      )

  on_below : (k : ℕ) (layer : PlanLayer) (below : Option ℕ)
      → slice_get plan.layers k ≡ Some layer → layer.below ≡ below
      → ((b : ℕ) (under : PlanLayer) → b < k → slice_get plan.layers b ≡ Some under
      → ThereOrNot b) → ThereOrNot k
  on_below k layer None found stands before =
      let l = is.parts.layers k layer found in
      let image = image_there plan layer.start l.start in
      here k (layer_or_reason plan k layer image.0 is found
      (subst (λ o. IsPlace plan layer.start o image.0) (sym stands) image.1))
  on_below k layer (Some b) found stands before =
      let l = is.parts.layers k layer found in
      let lower = subst (λ o. IfSome o (λ n. (n < k)
      × IsSomeAnd (slice_get plan.layers n) (λ (u : PlanLayer). u.start ≡ layer.start))) stands
      l.below in
      at_some (slice_get plan.layers b) lower.1 (λ under there same.
      above k b layer found stands (before b under lower.0 there))

  there_below : (n k : ℕ) (layer : PlanLayer) → k < n → slice_get plan.layers k ≡ Some layer
      → ThereOrNot k
  there_below zero k layer lt found = absurd (omega arith)
  there_below (suc n) k layer lt found =
      on_below k layer layer.below found refl
      (λ b under lower there. there_below n b under (omega arith) there)

  -- ---- not both, and one only

  -- a layer that is there stands on one that is there
  under_layer : (k b : ℕ) (m : Machine) → layer_below plan.layers k ≡ Some b → IsLayer plan k m
      → (below : Machine) × IsLayer plan b below
  under_layer k b m below there =
      let stands = sym (below_of plan k there.layer there.layer_is) ∙ below in
      let parts = (layer_place plan there.layer.start k there.layer m is there.layer_is).0
      there.place in
      (parts.0, (layer_under plan k b there.layer parts.0 is there.layer_is stands).1 parts.1)

  under_none : (k b : ℕ) (why : Stop) → layer_below plan.layers k ≡ Some b → IsNoLayer plan k why
      → (below : Machine) × IsLayer plan b below
  under_none k b why below none =
      let stands = sym (below_of plan k none.layer none.layer_is) ∙ below in
      let lower = layer_under plan k b none.layer none.below is none.layer_is stands in
      (none.below, lower.1 none.place)

  apart_by : (n k j : ℕ) (m : Machine) (why : Stop) → k < suc n → IsLayer plan k m
      → IsNoLayer plan j why
      → Part plan.layers k j
      → ((b : ℕ) (under : Machine) → b < n → IsLayer plan b under
      → contains j (stack plan.layers b) ≡ true → ⊥) → ⊥
  apart_by n k j m why lt there none (inl same) before =
      not_both plan k m why is there (subst (λ i. IsNoLayer plan i why) same none)
  apart_by n k j m why lt there none (inr (b, below, within)) before =
      let under = under_layer k b m below there in
      let lower = lower_of plan is k b below in
      before b under.0 (omega arith) under.1 within

  apart : (n k j : ℕ) (m : Machine) (why : Stop) → k < n → IsLayer plan k m
      → IsNoLayer plan j why → contains j (stack plan.layers k) ≡ true → ⊥
  apart zero k j m why lt there none within = absurd (omega arith)
  apart (suc n) k j m why lt there none within =
      apart_by n k j m why lt there none (in_stack plan.layers j k (lower_of plan is) within)
      (λ b under less at inside. apart n b j under why less at none inside)

  once_by : (n k i j : ℕ) (a c : Stop) → k < suc n → IsNoLayer plan i a → IsNoLayer plan j c
      → Part plan.layers k i → Part plan.layers k j
      → ((b : ℕ) → b < n → contains i (stack plan.layers b) ≡ true
      → contains j (stack plan.layers b) ≡ true → i ≡ j) → i ≡ j
  once_by n k i j a c lt p q (inl x) (inl y) before = x ∙ sym y
  once_by n k i j a c lt p q (inl x) (inr (b, below, within)) before =
      let under = under_none k b a below (subst (λ s. IsNoLayer plan s a) x p) in
      absurd (apart (suc b) b j under.0 c (omega arith) under.1 q within)
  once_by n k i j a c lt p q (inr (b, below, within)) (inl y) before =
      let under = under_none k b c below (subst (λ s. IsNoLayer plan s c) y q) in
      absurd (apart (suc b) b i under.0 a (omega arith) under.1 p within)
  once_by n k i j a c lt p q (inr (b, below, within)) (inr (d, below', within')) before =
      let same = same_below b d (sym below ∙ below') in
      let lower = lower_of plan is k b below in
      before b (omega arith) within
      (subst (λ s. contains j (stack plan.layers s) ≡ true) (sym same) within') where
        same_below : (x y : ℕ) → ◌≡◌ {A = Option ℕ} (Some x) (Some y) → x ≡ y
        same_below x y e = cc

  once : (n k i j : ℕ) (a c : Stop) → k < n → IsNoLayer plan i a → IsNoLayer plan j c
      → contains i (stack plan.layers k) ≡ true → contains j (stack plan.layers k) ≡ true → i ≡ j
  once zero k i j a c lt p q x y = absurd (omega arith)
  once (suc n) k i j a c lt p q x y =
      once_by n k i j a c lt p q (in_stack plan.layers i k (lower_of plan is) x)
      (in_stack plan.layers j k (lower_of plan is) y)
      (λ b less u v. once n b i j a c less p q u v)

pub there_or_not : (plan : Outline) (k : ℕ) (layer : PlanLayer) → IsPlan plan
    → slice_get plan.layers k ≡ Some layer
    → ((m : Machine) × IsLayer plan k m)
    ⊎ ((lower : ℕ) × (why : Stop) × (contains lower (stack plan.layers k) ≡ true)
    × IsNoLayer plan lower why)
there_or_not plan k layer is found = there_below plan is (suc k) k layer (omega arith) found

pub not_there_too : (plan : Outline) (k lower : ℕ) (m : Machine) (why : Stop) → IsPlan plan
    → contains lower (stack plan.layers k) ≡ true → IsLayer plan k m
    → IsNoLayer plan lower why → ⊥
not_there_too plan k lower m why is within there none =
    apart plan is (suc k) k lower m why (omega arith) there none within

pub one_missing : (plan : Outline) (k i j : ℕ) (a b : Stop) → IsPlan plan
    → contains i (stack plan.layers k) ≡ true → contains j (stack plan.layers k) ≡ true
    → IsNoLayer plan i a → IsNoLayer plan j b → i ≡ j
one_missing plan k i j a b is x y p q = once plan is (suc k) k i j a b (omega arith) p q x y
