-- The stacks of a plan's functions.
use Rattle.std.proofs.Common.{◌≡◌, ℕ, zero, suc, ◌+◌, ◌<◌, List, [], ◌∷◌, ◌++◌, length, map, take}
use Rattle.std.proofs.Common.{Option, Some, IfSome, refl, sym, ap, ◌∙◌, subst, arith}
use Rattle.std.proofs.Common.{option_map, get_or}
use Rattle.std.specs.Prelude.{slice_get}
use Rattle.std.proofs.lemmas.List.{length-map, map-append, take_more}
use Rattle.std.proofs.lemmas.List.Elements.{All-push}
use Rattle.std.proofs.lemmas.Option.{slice_get-map, slice_get_within, get_or_from_slice_get}
use Rattle.batch_model.specs.Setting.{stack_on, start_of_one}
use Rattle.deployer.specs.Grounds.{IsSizedBy}
use Rattle.journal_model.specs.Extents.{Extents, Stack}
use Rattle.plan_model.specs.Outline.{Outline}
use Rattle.plan_model.specs.Stacks.{stack}
use Rattle.plan_model.specs.declared.function.PlanFunction.{PlanFunction}
use Rattle.plan_model.specs.declared.layer.PlanLayer.{PlanLayer}
use Rattle.plan_model.specs.declared.numbers.Numbers.{Numbers}
use Rattle.plan_book.specs.Sized.{HaveStarts, sizes_for, start_limit}

-- what is said of what stands within a list is so of something that stands there
pub found_within : {A : Type 0} (P : A → Type 0) (xs : List A) (i : ℕ) → i < length xs →
    IfSome (slice_get xs i) P → (x : A) × (slice_get xs i ≡ Some x) × P x
found_within P [] i b h = absurd (omega arith)
found_within P (x ∷ xs) zero b h = (x, refl, h)
found_within P (x ∷ xs) (suc i) b h = found_within P xs i (omega arith) h

mapped_more : {A B : Type 0} (f : A → B) (xs : List A) (i : ℕ) (x : A) → slice_get xs i ≡ Some x →
    map f (take (i + 1) xs) ≡ map f (take i xs) ++ f x ∷ []
mapped_more f xs i x e = ap (map f) (take_more xs i x (slice_get_within xs i x e))
    ∙ (map-append f (take i xs) (get_or xs i x ∷ [])
    ∙ ap (λ y. map f (take i xs) ++ f y ∷ []) (get_or_from_slice_get xs i x x e))

-- one stack more
pub stacks_more : (layers : List PlanLayer) (functions : List PlanFunction) (n : ℕ)
    (made : Stack) (old new : List Stack) → n < length functions →
    IfSome (slice_get functions n) (λ f. made ≡ stack_on layers f) →
    old ≡ map (stack_on layers) (take n functions) → new ≡ old ++ made ∷ [] →
    new ≡ map (stack_on layers) (take (n + 1) functions)
stacks_more layers functions n made old new b h e k =
    let w = found_within (λ f. made ≡ stack_on layers f) functions n b h in
    k ∙ (ap (λ xs. xs ++ made ∷ []) e
    ∙ (ap (λ s. map (stack_on layers) (take n functions) ++ s ∷ []) w.2
    ∙ sym (mapped_more (stack_on layers) functions n w.0 w.1)))

pub starts_more : (made : Stack) (old new : List Stack) → made.start < start_limit →
    HaveStarts old → new ≡ old ++ made ∷ [] → HaveStarts new
starts_more made old new b h e = subst HaveStarts (sym e)
    (All-push (λ (s : Stack). s.start < start_limit) old made h b)

-- the sizes of a plan are by the plan
pub is_sized : (plan : Outline) (requests : ℕ) → IsSizedBy plan (sizes_for plan requests)
is_sized plan requests = record {
  root = refl;
  idle = refl;
  layers = refl;
  uses = refl;
  functions = length-map plan.functions (stack_on plan.layers);
  stacks = λ number function layer is.
      slice_get-map (stack_on plan.layers) plan.functions number
      ∙ (ap (option_map (stack_on plan.layers)) is.function_is
      ∙ ap (λ (o : Option PlanLayer). Some (record {
        start = start_of_one o;
        layers = stack plan.layers function.layer;
      })) is.layer_is);
}

-- the sizes of these parts are the plan's
abbrev sizes_with : Numbers → (idle layers requests : ℕ) → List Stack → Extents
sizes_with numbers idle layers requests stacks = record {
  frames = numbers.frames;
  root = 0;
  idle = idle;
  layers = layers;
  uses = numbers.uses;
  requests = requests;
  clock = Some numbers.clock;
  stacks = stacks;
}

pub same_sizes : (plan : Outline) (numbers : Numbers) (idle layers requests : ℕ)
    (stacks : List Stack) → numbers ≡ plan.numbers → idle ≡ numbers.idle → layers ≡ numbers.room →
    stacks ≡ map (stack_on plan.layers) plan.functions →
    sizes_with numbers idle layers requests stacks ≡ sizes_for plan requests
same_sizes plan numbers idle layers requests stacks n i r s =
    ap (sizes_with numbers idle layers requests) s
    ∙ (ap (λ x. sizes_with numbers x layers requests all) i
    ∙ (ap (λ x. sizes_with numbers numbers.idle x requests all) r
    ∙ ap (λ (m : Numbers). sizes_with m m.idle m.room requests all) n))
  where
    all : List Stack
    all = map (stack_on plan.layers) plan.functions
