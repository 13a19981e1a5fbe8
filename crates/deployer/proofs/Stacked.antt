-- The layers of a stack stand on one start.
use Rattle.std.proofs.Common.{◌≡◌, ◌⊎◌, inl, inr, ℕ, zero, suc, ◌<◌, ◌==◌, ◌||◌, Bool}
use Rattle.std.proofs.Common.{true, false, List, [], ◌∷◌, ◌++◌, Option, None, Some}
use Rattle.std.proofs.Common.{slice_get, IfSome, IsSomeAnd, MatchOption, refl, sym, ◌∙◌, ap}
use Rattle.std.proofs.Common.{subst, arith}
use Rattle.std.proofs.Common.{if◌then◌else◌, option_map, option_and_then}
use Rattle.std.proofs.lemmas.Bool.Decides.{nat_tests}
use Rattle.journal_model.specs.State.{contains, highest_kept, highest_of}
use Rattle.plan_model.specs.Outline.{AreLayers, IsLayer}
use Rattle.plan_model.specs.Stacks.{top_layers, on_top}
use Rattle.plan_model.specs.declared.layer.PlanLayer.{PlanLayer}

-- the layer of that number has that start
abbrev pub Starts : List PlanLayer → (j start : ℕ) → Type 0
Starts layers j start = IsSomeAnd (slice_get layers j) (λ (l : PlanLayer). l.start ≡ start)

is_same : (a b : ℕ) → (a == b) ≡ true → a ≡ b
is_same a b h = grind (arith, nat_tests)

in_parts : (P : Type 0) (a b c : Bool) → (a || b) ≡ true → (b ≡ true → (c ≡ true) ⊎ P)
    → ((a || c) ≡ true) ⊎ P
in_parts P true b c h f = inl refl
in_parts P false b c h f = f h

contains_parts : (j k : ℕ) (xs : List ℕ) → contains j (xs ++ k ∷ []) ≡ true
    → (contains j xs ≡ true) ⊎ (j ≡ k)
unfolding contains
contains_parts j k [] h = last (k == j) refl h where
  last : (b : Bool) → (k == j) ≡ b → (b || false) ≡ true → (false ≡ true) ⊎ (j ≡ k)
  last true e h = inr (sym (is_same k j e))
  last false e h = inl h
contains_parts j k (x ∷ xs) h =
    in_parts (j ≡ k) (x == j) (contains j (xs ++ k ∷ [])) (contains j xs) h (contains_parts j k xs)

none_in : (P : Type 0) (j : ℕ) → contains j [] ≡ true → P
unfolding contains
none_in P j h = absurd (cc)

alone : (j k : ℕ) → contains j (k ∷ []) ≡ true → j ≡ k
unfolding contains
alone j k h = at (k == j) refl h where
  at : (b : Bool) → (k == j) ≡ b → (b || false) ≡ true → j ≡ k
  at true e h = sym (is_same k j e)
  at false e h = absurd (cc)

some_and : {A : Type 0} (P : A → Type 0) (o : Option A) (x : A) → o ≡ Some x → P x →
    IsSomeAnd o P
some_and P o x e h = subst (λ o. IsSomeAnd o P) (sym e) h

pub there : {A : Type 0} {P : A → Type 0} (R : Type 0) (o : Option A) → IsSomeAnd o P →
    ((x : A) → o ≡ Some x → P x → R) → R
there R None h f = absurd h
there R (Some x) h f = f x refl h

here : (layers : List PlanLayer) (j k : ℕ) (top : PlanLayer) → slice_get layers k ≡ Some top →
    j ≡ k → Starts layers j top.start
here layers j k top e h =
    some_and (λ (l : PlanLayer). l.start ≡ top.start) (slice_get layers j) top
    (ap (λ n. slice_get layers n) h ∙ e) refl

-- one layer more on top
more : (layers : List PlanLayer) (starts n k j : ℕ) (top : PlanLayer) →
    slice_get layers k ≡ Some top → IsLayer layers starts k top →
    ((lower : ℕ) (m : PlanLayer) → slice_get layers lower ≡ Some m →
    contains j (top_layers n layers lower) ≡ true → Starts layers j m.start) →
    (below : Option ℕ) → top.below ≡ below →
    contains j (on_top (option_map (top_layers n layers) below) k) ≡ true →
    Starts layers j top.start
more layers starts n k j top e is f None b h = here layers j k top e (alone j k h)
more layers starts n k j top e is f (Some lower) b h =
    either (contains_parts j k (top_layers n layers lower) h) where
      lower_is : IsSomeAnd (slice_get layers lower) (λ (m : PlanLayer). m.start ≡ top.start)
      lower_is = (subst (λ o. IfSome o (λ l. (l < k)
          × IsSomeAnd (slice_get layers l) (λ (m : PlanLayer). m.start ≡ top.start))) b is.below).1

      either : (contains j (top_layers n layers lower) ≡ true) ⊎ (j ≡ k) →
          Starts layers j top.start
      either (inl g) = there (Starts layers j top.start) (slice_get layers lower) lower_is
          (λ m em sm. subst (λ s. Starts layers j s) sm (f lower m em g))
      either (inr g) = here layers j k top e g

-- each layer of a stack has the start of its top
pub same_start : (layers : List PlanLayer) (starts : ℕ) → AreLayers layers starts → (n k j : ℕ)
    (top : PlanLayer) → slice_get layers k ≡ Some top →
    contains j (top_layers n layers k) ≡ true → Starts layers j top.start
unfolding top_layers
same_start layers starts are zero k j top e h = none_in _ j h
same_start layers starts are (suc n) k j top e h =
    more layers starts n k j top e (are k top e)
    (λ lower m em hm. same_start layers starts are n lower j m em hm) top.below refl
    (subst (λ o. contains j (on_top (option_map (top_layers n layers)
    (option_and_then (λ (l : PlanLayer). l.below) o)) k) ≡ true) e h)

-- ---- the highest kept layer stands in the stack

highest_in_one : (kept : List ℕ) (x k : ℕ) (xs : List ℕ) (o : Option ℕ) →
    (o ≡ Some k → contains k xs ≡ true) → highest_of kept x o ≡ Some k →
    ((x == k) || contains k xs) ≡ true
highest_in_one kept x k xs (Some j) f h = or_true (x == k) (contains k xs) (f h) where
  or_true : (a b : Bool) → b ≡ true → (a || b) ≡ true
  or_true true b e = refl
  or_true false b e = e
highest_in_one kept x k xs None f h = at (contains x kept) h where
  self : (n : ℕ) → (n == n) ≡ true
  self n = grind (arith, nat_tests)

  some_is : (a b : ℕ) → Some a ≡ Some b → (a == b) ≡ true
  some_is a b e = subst (λ (o : Option ℕ). MatchOption o (Unit {0}) (λ c. (a == c) ≡ true)) e
      (self a)

  at : (b : Bool) → (if b then Some x else None) ≡ Some k → ((x == k) || contains k xs) ≡ true
  at true e = subst (λ (b : Bool). (b || contains k xs) ≡ true) (sym (some_is x k e)) refl
  at false e = absurd (cc)

pub highest_in : (kept xs : List ℕ) (k : ℕ) → highest_kept kept xs ≡ Some k →
    contains k xs ≡ true
unfolding highest_kept contains
highest_in kept [] k h = absurd (cc)
highest_in kept (x ∷ xs) k h =
    highest_in_one kept x k xs (highest_kept kept xs) (highest_in kept xs k) h
