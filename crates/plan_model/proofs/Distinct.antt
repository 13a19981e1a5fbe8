-- No layer stands twice in a stack, since each stands on an earlier one.
use Rattle.std.proofs.Common.{◌≡◌, ℕ, zero, suc, ◌+◌, ◌<◌, ◌≤◌, List, [], ◌∷◌, ◌++◌, false, nat_eq}
use Rattle.std.proofs.Common.{Option, Some, None, option_map, refl, arith}
use Rattle.std.proofs.lemmas.Bool.Decides.{nat_tests}
use Rattle.std.specs.List.{IsDistinct, AllByRecursion}
use Rattle.plan_model.specs.Stacks.{top_layers, stack, on_top, layer_below, StandLower}
use Rattle.plan_model.specs.declared.layer.PlanLayer.{PlanLayer}

-- each of these is at most k
abbrev AllUpTo : (k : ℕ) → List ℕ → Type 0
AllUpTo k [] = Unit {0}
AllUpTo k (x ∷ xs) = (x ≤ k) × AllUpTo k xs

-- a stack whose top is k
record IsUpTo (k : ℕ) (xs : List ℕ) : Type 0 where
  most : AllUpTo k xs
  distinct : IsDistinct nat_eq xs

up_to_more : (a b : ℕ) (xs : List ℕ) → a ≤ b → AllUpTo a xs → AllUpTo b xs
up_to_more a b [] le all = tt
up_to_more a b (x ∷ xs) le all = (let h = all.0 in omega (arith, h), up_to_more a b xs le all.1)

up_to_push : (k : ℕ) (xs : List ℕ) → AllUpTo k xs → AllUpTo k (xs ++ k ∷ [])
up_to_push k [] all = (omega arith, tt)
up_to_push k (x ∷ xs) all = (all.0, up_to_push k xs all.1)

differ : (x y : ℕ) → x < y → nat_eq x y ≡ false
differ x y lt = grind (arith, nat_tests)

apart_push : (x k : ℕ) (xs : List ℕ) → x < k → AllByRecursion (λ y. nat_eq x y ≡ false) xs
    → AllByRecursion (λ y. nat_eq x y ≡ false) (xs ++ k ∷ [])
apart_push x k [] lt all = (differ x k lt, tt)
apart_push x k (y ∷ ys) lt all = (all.0, apart_push x k ys lt all.1)

distinct_push : (b k : ℕ) (xs : List ℕ) → b < k → AllUpTo b xs → IsDistinct nat_eq xs
    → IsDistinct nat_eq (xs ++ k ∷ [])
unfolding IsDistinct
distinct_push b k [] lt all distinct = (tt, tt)
distinct_push b k (x ∷ xs) lt all distinct = (
  let h = all.0 in apart_push x k xs (omega (arith, h)) distinct.0,
  distinct_push b k xs lt all.1 distinct.1,
)

alone : (k : ℕ) → IsUpTo k (k ∷ [])
unfolding IsDistinct
alone k = record { most = (omega arith, tt); distinct = (tt, tt) }

on_lower : (b k : ℕ) (xs : List ℕ) → b < k → IsUpTo b xs → IsUpTo k (xs ++ k ∷ [])
on_lower b k xs lt lower = record {
  most = up_to_push k xs (up_to_more b k xs (omega (arith, lt)) lower.most);
  distinct = distinct_push b k xs lt lower.most lower.distinct;
}

none_yet : (k : ℕ) → IsUpTo k []
unfolding IsDistinct
none_yet k = record { most = tt; distinct = tt }

on_any : (n : ℕ) (layers : List PlanLayer) (k : ℕ) (below : Option ℕ)
    → ((b : ℕ) → below ≡ Some b → (b < k) × IsUpTo b (top_layers n layers b))
    → IsUpTo k (on_top (option_map (top_layers n layers) below) k)
on_any n layers k None each = alone k
on_any n layers k (Some b) each =
    let h = each b refl in on_lower b k (top_layers n layers b) h.0 h.1

up_to_top : (n : ℕ) (layers : List PlanLayer) (k : ℕ) → StandLower layers
    → IsUpTo k (top_layers n layers k)
unfolding top_layers
up_to_top zero layers k lower = none_yet k
up_to_top (suc n) layers k lower =
    on_any n layers k (layer_below layers k) (λ b is. (lower k b is, up_to_top n layers b lower))

pub stack_distinct : (layers : List PlanLayer) (k : ℕ) → StandLower layers
    → IsDistinct nat_eq (stack layers k)
stack_distinct layers k lower = (up_to_top (k + 1) layers k lower).distinct
