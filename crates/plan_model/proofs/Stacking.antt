-- A layer's stack is that of the layer below with the layer on top, however many layers are
-- allowed.
use Rattle.std.proofs.Common.{◌≡◌, ℕ, zero, suc, ◌+◌, ◌<◌, List, [], ◌∷◌, ◌++◌, length}
use Rattle.std.proofs.Common.{Option, Some, None, option_map, option_and_then, slice_get}
use Rattle.std.proofs.Common.{refl, ap, sym, ◌∙◌, add-one, arith, length-append}
use Rattle.std.proofs.Common.{inl, inr, IfSome, get_or}
use Rattle.std.proofs.lemmas.Bool.{cases_lt}
use Rattle.std.proofs.lemmas.Option.{slice_get-get_or, option_and_then_some}
use Rattle.plan_model.specs.Outline.{AreLayers}
use Rattle.plan_model.specs.Stacks.{top_layers, stack, on_top, layer_below, StandLower, AreStacks}
use Rattle.plan_model.specs.declared.layer.PlanLayer.{PlanLayer}

-- the layer below, if any, has the same top layers
same_below : (n m : ℕ) (layers : List PlanLayer) (below : Option ℕ)
    → ((b : ℕ) → below ≡ Some b → top_layers n layers b ≡ top_layers m layers b)
    → option_map (top_layers n layers) below ≡ option_map (top_layers m layers) below
same_below n m layers None same = refl
same_below n m layers (Some b) same = ap Some (same b refl)

-- the count doesn't matter where it is above the layer's number
pub same_top : (n m : ℕ) (layers : List PlanLayer) (k : ℕ) → StandLower layers → k < n → k < m
    → top_layers n layers k ≡ top_layers m layers k
unfolding top_layers
same_top zero m layers k lower a b = absurd (omega arith)
same_top (suc n) zero layers k lower a b = absurd (omega arith)
same_top (suc n) (suc m) layers k lower a b =
    ap (λ below. on_top below k) (same_below n m layers (layer_below layers k) (λ l is.
    let h = lower k l is in
    same_top n m layers l lower (omega (arith, h)) (omega (arith, h))))

of_below : (layers : List PlanLayer) (k : ℕ) (stacks : List (List ℕ)) (below : Option ℕ)
    → ((b : ℕ) → below ≡ Some b → slice_get stacks b ≡ Some (top_layers k layers b))
    → option_and_then (slice_get stacks) below ≡ option_map (top_layers k layers) below
of_below layers k stacks None each = refl
of_below layers k stacks (Some b) each = each b refl

top_of : (layers : List PlanLayer) (k : ℕ)
    → stack layers k ≡ on_top (option_map (top_layers k layers) (layer_below layers k)) k
unfolding top_layers
top_of layers k = rw (add-one k)

stacks_below : (k : ℕ) (layers : List PlanLayer) (below : Option ℕ) → StandLower layers
    → ((b : ℕ) → below ≡ Some b → b < k)
    → option_map (top_layers k layers) below ≡ option_map (stack layers) below
stacks_below k layers None lower lt = refl
stacks_below k layers (Some b) lower lt =
    ap Some (same_top k (b + 1) layers b lower (lt b refl) (omega arith))

-- a layer's stack is that of the layer below, if any, and the layer
pub stack_on : (layers : List PlanLayer) (k : ℕ) → StandLower layers
    → stack layers k ≡ on_top (option_map (stack layers) (layer_below layers k)) k
stack_on layers k lower = top_of layers k ∙ ap (λ below. on_top below k)
    (stacks_below k layers (layer_below layers k) lower (lower k))

-- the stack that is made from those of the earlier layers
pub stack_made : (layers : List PlanLayer) (k : ℕ) (stacks : List (List ℕ)) → StandLower layers
    → AreStacks layers k stacks
    → on_top (option_and_then (slice_get stacks) (layer_below layers k)) k ≡ stack layers k
stack_made layers k stacks lower made =
    ap (λ below. on_top below k) (of_below layers k stacks (layer_below layers k) (λ b is.
    let h = lower k b is in
    made.each b h ∙ ap Some (same_top (b + 1) k layers b lower (omega arith) h)))
    ∙ sym (top_of layers k)

get_front : (xs : List (List ℕ)) (y : List ℕ) (i : ℕ) → i < length xs
    → slice_get (xs ++ y ∷ []) i ≡ slice_get xs i
get_front [] y i h = absurd (omega arith)
get_front (x ∷ xs) y zero h = refl
get_front (x ∷ xs) y (suc i) h = get_front xs y i (omega arith)

get_last : (xs : List (List ℕ)) (y : List ℕ) → slice_get (xs ++ y ∷ []) (length xs) ≡ Some y
get_last [] y = refl
get_last (x ∷ xs) y = get_last xs y

-- one stack more
pub one_more : (layers : List PlanLayer) (k : ℕ) (stacks : List (List ℕ)) (made : List ℕ)
    → AreStacks layers k stacks → made ≡ stack layers k
    → AreStacks layers (k + 1) (stacks ++ made ∷ [])
one_more layers k stacks made h e = record {
  all = length-append stacks (made ∷ []) ∙ ap (λ n. n + 1) h.all;
  each = λ number lt. elim (cases_lt number k) [
    | inl before ↦ get_front stacks made number (omega (arith, h.all)) ∙ h.each number before
    | inr past ↦
        let last : length stacks ≡ number = omega (arith, h.all) in
        ap (slice_get (stacks ++ made ∷ [])) (sym last) ∙ get_last stacks made
        ∙ ap Some (e ∙ ap (stack layers) (sym h.all ∙ last))
  ];
}

-- ---- what a layer stands on

pub below_read : (layers : List PlanLayer) (k : ℕ) (l : PlanLayer) → k < length layers
    → layer_below layers k ≡ (get_or layers k l).below
below_read layers k l lt =
    ap (option_and_then (λ layer. layer.below)) (slice_get-get_or layers k l lt)

pub below_within : (below : Option ℕ) (count : ℕ) (stacks : List (List ℕ))
    → ((lower : ℕ) → below ≡ Some lower → lower < count) → length stacks ≡ count
    → IfSome below (λ lower. lower < length stacks)
below_within None count stacks lower all = tt
below_within (Some b) count stacks lower all = rw all (lower b refl)

-- the layers of a plan stand on earlier ones
pub stand_lower : (layers : List PlanLayer) (starts : ℕ) → AreLayers layers starts
    → StandLower layers
stand_lower layers starts are number lower is =
    option_and_then_some (λ layer. layer.below) (slice_get layers number) lower is
    (λ layer found below. (rw below at (are number layer found).below).0)
