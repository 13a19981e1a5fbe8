-- Which layer stands directly above a place of a stack.
use Rattle.std.proofs.Common.{◌≡◌, ℕ, zero, suc, ◌<◌, ◌==◌, ◌||◌, Bool, true, false, List, [], ◌∷◌}
use Rattle.std.proofs.Common.{◌++◌, if◌then◌else◌, Option, None, Some, IfSome, IsSomeAnd}
use Rattle.std.proofs.Common.{option_and_then, slice_get, ◌⊎◌, inl, inr, refl, ap, sym, ◌∙◌, subst}
use Rattle.std.proofs.Common.{arith, ◌≢◌, MatchOption, length, slice_index_or}
use Rattle.std.proofs.lemmas.Bool.Decides.{nat_tests}
use Rattle.std.proofs.lemmas.Option.{get_or_from_slice_get}
use Rattle.journal_model.specs.State.{contains, layer_above}
use Rattle.layer_model.proofs.Places.{layers_on}
use Rattle.layer_model.specs.Layers.{layers_to}
use Rattle.plan_model.proofs.Stacking.{stand_lower}
use Rattle.plan_model.specs.Outline.{AreLayers, AreParts, Outline}
use Rattle.plan_model.specs.Stacks.{StandLower, layer_below, stack}
use Rattle.plan_model.specs.declared.function.PlanFunction.{PlanFunction}
use Rattle.plan_model.specs.declared.layer.PlanLayer.{PlanLayer}
use Rattle.context_runs.specs.OfLayers.{IsOnStack, IsTop, StandsAbove}

same_number : (a b : ℕ) → (a == b) ≡ true → a ≡ b
same_number a b h = grind (arith, nat_tests)

number_same : (a : ℕ) → (a == a) ≡ true
number_same a = grind (arith, nat_tests)

-- ---- lists with one more at their end

-- the first stays
first_stays : (ys : List ℕ) (b k : ℕ)
    → slice_get ((ys ++ b ∷ []) ++ k ∷ []) 0 ≡ slice_get (ys ++ b ∷ []) 0
first_stays [] b k = refl
first_stays (y ∷ ys) b k = refl

-- there is one
first_there : (ys : List ℕ) (b : ℕ) → slice_get (ys ++ b ∷ []) 0 ≡ None → ⊥
first_there [] b h = cc
first_there (y ∷ ys) b h = cc

first_is : (n : ℕ) (x : ℕ) → Some x ≡ Some n → n ≡ x
first_is n x h = cc

none_above : {P : Type 0} (t : Bool) (n : ℕ) → (if t then None else None) ≡ Some n → P
none_above true n h = cc
none_above false n h = cc

-- above a stack of one layer stands that, and only above the image
pub above_one : (place : Option ℕ) (k n : ℕ) → layer_above place (k ∷ []) ≡ Some n
    → (n ≡ k) × (place ≡ None)
unfolding layer_above
above_one None k n h = (first_is n k h, refl)
above_one (Some a) k n h = none_above (k == a) n h

last_by : (t : Bool) (a b k n : ℕ) → (t ≡ true → b ≡ a)
    → (if t then Some k else (if k == a then None else None)) ≡ Some n
    → (n ≡ k) × (Some a ≡ Some b)
last_by true a b k n same h = (first_is n k h, ap Some (sym (same refl)))
last_by false a b k n same h = none_above (k == a) n h

front_by : {P : Type 0} (t : Bool) (x x_less y y_less : Option ℕ) (n : ℕ) → x ≡ x_less
    → (y ≡ Some n → (y_less ≡ Some n) ⊎ P) → (if t then x else y) ≡ Some n
    → ((if t then x_less else y_less) ≡ Some n) ⊎ P
front_by true x x_less y y_less n same go h = inl (sym same ∙ h)
front_by false x x_less y y_less n same go h = go h

-- what stands above a place of a stack stands above it without the layer on top, or is that layer
pub above_front : (place : Option ℕ) (ys : List ℕ) (b k n : ℕ)
    → layer_above place ((ys ++ b ∷ []) ++ k ∷ []) ≡ Some n
    → (layer_above place (ys ++ b ∷ []) ≡ Some n) ⊎ ((n ≡ k) × (place ≡ Some b))
unfolding layer_above
above_front None ys b k n h = inl (sym (first_stays ys b k) ∙ h)
above_front (Some a) [] b k n h = inr (last_by (b == a) a b k n (same_number b a) h)
above_front (Some a) (y ∷ ys) b k n h =
    front_by (y == a) (slice_get ((ys ++ b ∷ []) ++ k ∷ []) 0) (slice_get (ys ++ b ∷ []) 0)
    (layer_above (Some a) ((ys ++ b ∷ []) ++ k ∷ [])) (layer_above (Some a) (ys ++ b ∷ [])) n
    (first_stays ys b k) (above_front (Some a) ys b k n) h

-- ---- the layer above

-- the layer of the number stands on the place, over the start
pub record IsFound (layers : List PlanLayer) (place : Option ℕ) (n start : ℕ) : Type 0 where
  pub layer : PlanLayer
  pub layer_is : slice_get layers n ≡ Some layer
  pub below_is : layer.below ≡ place
  pub start_is : layer.start ≡ start

some_and : {A : Type 0} {P : A → Type 0} (o : Option A) → IsSomeAnd o P
    → (x : A) × (o ≡ Some x) × P x
some_and None is = absurd is
some_and (Some x) is = (x, refl, is)

here : (layers : List PlanLayer) (place : Option ℕ) (n k : ℕ) (t : PlanLayer)
    → slice_get layers k ≡ Some t → t.below ≡ place → n ≡ k → IsFound layers place n t.start
here layers place n k t t_is below_is n_is = record {
  layer = t;
  layer_is = ap (slice_get layers) n_is ∙ t_is;
  below_is = below_is;
  start_is = refl;
}

abbrev Below : List PlanLayer → (place : Option ℕ) → (n k : ℕ) → Type 0
Below layers place n k = (b : ℕ) (m : PlanLayer) → b < k → slice_get layers b ≡ Some m
    → layer_above place (stack layers b) ≡ Some n → IsFound layers place n m.start

-- by what the topmost layer stands on
found_on : (layers : List PlanLayer) (place : Option ℕ) (n k : ℕ) (t : PlanLayer)
    (below : Option ℕ) → StandLower layers → slice_get layers k ≡ Some t → t.below ≡ below
    → IfSome below (λ lower. (lower < k)
    × IsSomeAnd (slice_get layers lower) (λ m. m.start ≡ t.start))
    → Below layers place n k → layer_above place (layers_to layers below ++ k ∷ []) ≡ Some n
    → IsFound layers place n t.start
found_on layers place n k t None lower t_is below_is ok deeper h =
    let one = above_one place k n h in
    here layers place n k t t_is (below_is ∙ sym one.1) one.0
found_on layers place n k t (Some b) lower t_is below_is ok deeper h =
    let m = some_and (slice_get layers b) ok.1 in
    let on_b = layers_on layers b lower in
    let ys = layers_to layers (layer_below layers b) in
    elim (above_front place ys b k n
    (subst (λ ks. layer_above place (ks ++ k ∷ []) ≡ Some n) on_b h)) [
      | inl front ↦ (
          let found = deeper b m.0 ok.0 m.1
          (subst (λ ks. layer_above place ks ≡ Some n) (sym on_b) front) in
          record {
            layer = found.layer;
            layer_is = found.layer_is;
            below_is = found.below_is;
            start_is = found.start_is ∙ m.2;
          })
      | inr last ↦ here layers place n k t t_is (below_is ∙ sym last.1) last.0
    ]

below_read : (layers : List PlanLayer) (k : ℕ) (t : PlanLayer) → slice_get layers k ≡ Some t
    → layer_below layers k ≡ t.below
below_read layers k t t_is = ap (option_and_then (λ (l : PlanLayer). l.below)) t_is

found_within : (fuel : ℕ) (layers : List PlanLayer) (starts : ℕ) (place : Option ℕ) (n k : ℕ)
    (t : PlanLayer) → StandLower layers → AreLayers layers starts → k < fuel
    → slice_get layers k ≡ Some t → layer_above place (stack layers k) ≡ Some n
    → IsFound layers place n t.start
found_within zero layers starts place n k t lower are lt t_is h = absurd (omega arith)
found_within (suc fuel) layers starts place n k t lower are lt t_is h =
    found_on layers place n k t t.below lower t_is refl (are k t t_is).below
    (λ b m b_lt m_is deeper.
    found_within fuel layers starts place n b m lower are (omega (arith, lt, b_lt)) m_is deeper)
    (subst (λ below. layer_above place (layers_to layers below ++ k ∷ []) ≡ Some n)
    (below_read layers k t t_is)
    (subst (λ ks. layer_above place ks ≡ Some n) (layers_on layers k lower) h))

-- the layer directly above a place of a layer's stack stands on the place, over the same start
pub found_above : (layers : List PlanLayer) (starts : ℕ) (place : Option ℕ) (n k : ℕ)
    (t : PlanLayer) → StandLower layers → AreLayers layers starts
    → slice_get layers k ≡ Some t → layer_above place (stack layers k) ≡ Some n
    → IsFound layers place n t.start
found_above layers starts place n k t lower are t_is h =
    found_within (suc k) layers starts place n k t lower are (omega arith) t_is h

-- ---- where there is none above

or_right : (t c : Bool) → c ≡ true → (t || c) ≡ true
or_right true c h = refl
or_right false c h = h

none_by : {P : Type 0} (t c : Bool) (x y : Option ℕ) → (x ≡ None → ⊥)
    → (c ≡ true → y ≡ None → P) → (t || c) ≡ true → (if t then x else y) ≡ None → P
none_by true c x y there go h none = absurd (there none)
none_by false c x y there go h none = go h none

one_by : (t : Bool) → (t || false) ≡ true → t ≡ true
one_by true h = refl
one_by false h = h

-- a layer of a stack with none above is the one on top
last_alone : (a : ℕ) (ys : List ℕ) (top : ℕ) → contains a (ys ++ top ∷ []) ≡ true
    → layer_above (Some a) (ys ++ top ∷ []) ≡ None → a ≡ top
unfolding contains layer_above
last_alone a [] top h none = sym (same_number top a (one_by (top == a) h))
last_alone a (y ∷ ys) top h none =
    none_by (y == a) (contains a (ys ++ top ∷ [])) (slice_get (ys ++ top ∷ []) 0)
    (layer_above (Some a) (ys ++ top ∷ [])) (first_there ys top) (last_alone a ys top) h none

last_of : (ys : List ℕ) (top : ℕ) (place : Option ℕ)
    → IfSome place (λ k. contains k (ys ++ top ∷ []) ≡ true)
    → layer_above place (ys ++ top ∷ []) ≡ None → place ≡ Some top
unfolding layer_above
last_of ys top None stands none = absurd (first_there ys top none)
last_of ys top (Some a) stands none = ap Some (last_alone a ys top stands none)

pub none_above_top : (layers : List PlanLayer) (k : ℕ) (place : Option ℕ) → StandLower layers
    → IfSome place (λ a. contains a (stack layers k) ≡ true)
    → layer_above place (stack layers k) ≡ None → place ≡ Some k
none_above_top layers k place lower stands none =
    let on = layers_on layers k lower in
    last_of (layers_to layers (layer_below layers k)) k place
    (subst (λ ks. IfSome place (λ a. contains a ks ≡ true)) on stands)
    (subst (λ ks. layer_above place ks ≡ None) on none)

-- ---- the layer above is one of the stack

first_in : (xs : List ℕ) (n : ℕ) → slice_get xs 0 ≡ Some n → contains n xs ≡ true
unfolding contains
first_in [] n h = cc
first_in (x ∷ xs) n h =
    subst (λ y. (y == n || contains n xs) ≡ true) (first_is n x h)
    (subst (λ t. (t || contains n xs) ≡ true) (sym (number_same n)) refl)

in_by : (t c : Bool) (x y : Option ℕ) (n : ℕ) → (x ≡ Some n → c ≡ true)
    → (y ≡ Some n → c ≡ true) → (if t then x else y) ≡ Some n → c ≡ true
in_by true c x y n first go h = first h
in_by false c x y n first go h = go h

pub above_in : (place : Option ℕ) (xs : List ℕ) (n : ℕ) → layer_above place xs ≡ Some n
    → contains n xs ≡ true
unfolding contains layer_above
above_in None xs n h = first_in xs n h
above_in (Some a) [] n h = cc
above_in (Some a) (x ∷ xs) n h =
    or_right (x == n) (contains n xs)
    (in_by (x == a) (contains n xs) (slice_get xs 0) (layer_above (Some a) xs) n (first_in xs n)
    (above_in (Some a) xs n) h)

-- ---- what is told of it

own_or_other : (place : Option ℕ) (own : ℕ) → (place ≡ Some own) ⊎ (place ≢ Some own)
own_or_other None own = inr (λ is. cc)
own_or_other (Some a) own = by_test (a == own) refl where
  by_test : (t : Bool) → (a == own) ≡ t → (Some a ≡ Some own) ⊎ (Some a ≢ Some own)
  by_test true e = inl (ap Some (same_number a own e))
  by_test false e = inr (λ is.
      let same : a ≡ own = cc in
      let no : true ≡ false = sym (number_same own) ∙ ap (λ x. x == own) (sym same) ∙ e in cc)

-- the place is the function's own, or that stands above it
pub next_by : (place : Option ℕ) (own : ℕ) (r above : Option ℕ) → (place ≡ Some own → r ≡ None)
    → (place ≢ Some own → r ≡ above) → (above ≡ None → place ≡ Some own)
    → MatchOption r (place ≡ Some own) (λ n. (place ≢ Some own) × (above ≡ Some n))
next_by place own None above at other last = elim (own_or_other place own) [
  | inl is ↦ is
  | inr elsewhere ↦ last (sym (other elsewhere))
]
next_by place own (Some n) above at other last =
    let elsewhere : place ≢ Some own = λ is. let no = at is in cc in
    (elsewhere, sym (other elsewhere))

-- what stands above a place of the function's stack, by what was found
pub next_is : (plan : Outline) (number : ℕ) (place r : Option ℕ) (own : ℕ)
    → (o : IsOnStack plan number place) → AreParts plan → own ≡ o.function.layer
    → MatchOption r (place ≡ Some own)
    (λ n. (place ≢ Some own) × (layer_above place (stack plan.layers o.function.layer) ≡ Some n))
    → MatchOption r (IsTop plan number place) (λ n. StandsAbove plan number place n)
next_is plan number place None own o parts own_is at = record {
  function = o.function;
  layer = o.top;
  function_is = o.function_is;
  place_is = at ∙ ap Some own_is;
}
next_is plan number place (Some n) own o parts own_is (elsewhere, above) =
    let lower = stand_lower plan.layers (length plan.starts) parts.layers in
    let found = found_above plan.layers (length plan.starts) place n o.function.layer o.top lower
    parts.layers o.function_is.layer_is above in
    record {
      function = o.function;
      top = o.top;
      function_is = o.function_is;
      place_is = λ is. elsewhere (is ∙ ap Some (sym own_is));
      above_is = above;
      layer = found.layer;
      layer_is = found.layer_is;
      start_is = found.start_is;
      below_is = found.below_is;
    }

-- and that is on the stack too
pub next_on_stack : (plan : Outline) (number : ℕ) (place r : Option ℕ)
    → MatchOption r (IsTop plan number place) (λ n. StandsAbove plan number place n)
    → IfSome r (λ n. IsOnStack plan number (Some n))
next_on_stack plan number place None at = tt
next_on_stack plan number place (Some n) a = record {
  function = a.function;
  top = a.top;
  function_is = a.function_is;
  stands = above_in place (stack plan.layers a.function.layer) n a.above_is;
}

-- ---- what was read of the plan

pub layer_of_read : (xs functions : List PlanFunction) (i number : ℕ) (d function : PlanFunction)
    → xs ≡ functions → i ≡ number → slice_get functions number ≡ Some function
    → slice_index_or xs i d ≡ function
layer_of_read xs functions i number d function xs_are i_is is =
    rw (xs_are, i_is) (get_or_from_slice_get functions number function d is)

pub stack_read : (found : Option PlanFunction) (function : PlanFunction) (layers : List PlanLayer)
    (read : List ℕ) → found ≡ Some function
    → IfSome found (λ (f : PlanFunction). read ≡ stack layers f.layer)
    → read ≡ stack layers function.layer
stack_read found function layers read is told =
    subst (λ o. IfSome o (λ (f : PlanFunction). read ≡ stack layers f.layer)) is told
