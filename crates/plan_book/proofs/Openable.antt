-- What a plan's book is opened with is what a book asks for.
use Rattle.std.proofs.Common.{◌≡◌, ℕ, zero, suc, ◌+◌, ◌<◌, ◌≤◌, Bool, true, false, List, [], ◌∷◌}
use Rattle.std.proofs.Common.{◌++◌, length, Option, None, Some, IfSome, refl, sym, ap, ◌∙◌, subst}
use Rattle.std.proofs.Common.{arith, min, ◌⊎◌, inl, inr, length-append, map, get_or}
use Rattle.std.specs.Prelude.{All, Result, Err, nat_eq}
use Rattle.std.specs.List.{slice_get, IsDistinct, AllByRecursion}
use Rattle.std.proofs.lemmas.List.Elements.{All-from_recursion, All-map}
use Rattle.std.proofs.lemmas.Option.{none-some, same_Some, slice_get_cases}
use Rattle.batch_model.specs.Setting.{stack_on, start_of_one}
use Rattle.book_model.specs.Kept.{IsImageOf, IsOpenable, most_requests}
use Rattle.context_uc.specs.Views.{ContextView, LayerView, kept_of, IsKept}
use Rattle.deployer.specs.Grounds.{AreGrounds, HasStart}
use Rattle.image_model.specs.Layout.{Layout}
use Rattle.journal_model.specs.Extents.{Extents, Stack}
use Rattle.plan_book.proofs.Stacked.{found_within}
use Rattle.plan_book.specs.OfPlan.{told}
use Rattle.plan_book.specs.Opened.{AreImages, IsPlanImage, image_count}
use Rattle.plan_book.specs.Sized.{HaveStarts, sizes_for, start_limit}
use Rattle.plan_model.specs.Outline.{AreFunctions, AreLayers, IsPlan, Outline}
use Rattle.plan_model.specs.Stacks.{stack}
use Rattle.plan_model.specs.declared.function.PlanFunction.{PlanFunction}
use Rattle.plan_model.specs.declared.layer.PlanLayer.{PlanLayer}
use Rattle.space_api.specs.Flat.{Flat}
use Rattle.space_api.specs.Holding.{Holding, IsOpened, Notes, Pin, Stocked, if_taken, holding_of}
use Rattle.space_api.specs.Stores.{Frozen, RefusesRightly}
use Rattle.space_api.specs.declared.refused.Refused.{Refused}
use Rattle.space_api.specs.declared.refused.Refused.TheVariants as refused

-- ---- one image

-- over copied pages an image that is opened takes nothing of the shelf
pub shelf_stays : (takes : Bool) (frames : ℕ) (old new : Stocked) → takes ≡ false →
    IsOpened takes frames old new → new ≡ old
shelf_stays false frames old new e h = same old new (omega (arith, h.free_falls))
    (omega (arith, h.stake_falls)) h.whole_stays (notes_same old.notes new.notes h.noted) where
      same : (a b : Stocked) → b.free ≡ a.free → b.stake ≡ a.stake → b.whole ≡ a.whole →
          b.notes ≡ a.notes → b ≡ a
      same a b f s w n = ap (λ x. record b { free = x }) f
          ∙ (ap (λ x. record b { free = a.free; stake = x }) s
          ∙ (ap (λ x. record b { free = a.free; stake = a.stake; whole = x }) w
          ∙ ap (λ (x : Notes). record a { notes = x }) n))

      plus_none : (n : ℕ) → n + 0 ≡ n
      plus_none n = omega arith

      notes_same : (a b : Notes) → record a { opened = a.opened + 0 }
          ≡ record b { beside = b.beside + 0 } → b ≡ a
      notes_same a b h = ap (λ x. record b { beside = x }) (sym (plus_none b.beside)) ∙ (sym h
          ∙ ap (λ x. record a { opened = x }) (plus_none a.opened))
shelf_stays true frames old new e h = absurd (cc)

-- no frame is wanted over copied pages
pub no_frames : {T : Type 0} (takes lacks : Bool) (free asked : ℕ) (result : Result T Refused) →
    takes ≡ false → RefusesRightly takes lacks free asked result → result ≡ Err refused.Frames → ⊥
no_frames takes lacks free asked result e h r =
    let t : takes ≡ true = (h.frames.0 r).0 in absurd (cc)

-- what is said where the store's starts are, of the plan's starts
pub of_plan_starts : (P : Layout → Type 0) (starts plan_starts : List Layout) (start : ℕ) →
    starts ≡ plan_starts → IfSome (slice_get starts start) P →
    IfSome (slice_get plan_starts start) P
of_plan_starts P starts plan_starts start e h =
    subst (λ (xs : List Layout). IfSome (slice_get xs start) P) e h

-- the shelf, where a start was opened
pub shelf_kept : (takes : Bool) (frames : Layout → ℕ) (starts plan_starts : List Layout) (start : ℕ)
    (old new : Stocked) → starts ≡ plan_starts → start < length plan_starts → takes ≡ false →
    IfSome (slice_get starts start) (λ layout. IsOpened takes (frames layout) old new) → new ≡ old
shelf_kept takes frames starts plan_starts start old new e b t h =
    let w = found_within (λ layout. IsOpened takes (frames layout) old new) plan_starts start b
    (of_plan_starts (λ layout. IsOpened takes (frames layout) old new) starts plan_starts start e
    h) in
    shelf_stays takes (frames w.0) old new t w.2

-- no start that is there is refused for frames
pub not_refused : {T : Type 0} (takes lacks : Bool) (free : ℕ) (asked : Layout → ℕ)
    (starts plan_starts : List Layout) (start : ℕ) (result : Result T Refused) →
    starts ≡ plan_starts → start < length plan_starts → takes ≡ false →
    IfSome (slice_get starts start) (λ layout. RefusesRightly takes lacks free (asked layout)
    result) → result ≡ Err refused.Frames → ⊥
not_refused takes lacks free asked starts plan_starts start result e b t h r =
    let P : Layout → Type 0 = λ layout. RefusesRightly takes lacks free (asked layout) result in
    let w = found_within P plan_starts start b (of_plan_starts P starts plan_starts start e h) in
    no_frames takes lacks free (asked w.0) result t w.2 r

module _ {Z : Type 0} (flat : Z → Flat) (image : Z → Bool) (pin : Z → Option Pin)
    (stake : Z → ℕ) where
  -- what was opened is the plan's image
  pub image_made : (plan : Outline) (start : ℕ) (l : LayerView Z) (made : Frozen)
      (takes : Bool) (n span : ℕ) → takes ≡ false → l.plan ≡ plan → l.number ≡ None →
      l.start ≡ start → told flat image l.frozen ≡ made → made.image ≡ true →
      holding_of (stake l.frozen) (span) (pin l.frozen) ≡ holding_of (if_taken takes n) 0 None →
      IsKept l (flat l.frozen) → IsPlanImage flat image pin stake plan start l
  image_made plan start l made false n span t p e s m i h k = record {
    of_plan = record {
      plan_is = p;
      start_is = subst (λ (o : Option ℕ). HasStart plan o l.start) (sym e) tt;
      kept = k;
    };
    image_of = record {
      number = e;
      start_is = s;
      opened = ap (λ (f : Frozen). f.image) m ∙ i;
      loose = ap (λ (x : Holding). x.pin) h;
    };
    no_stake = ap (λ (x : Holding). x.stake) h;
  }
  image_made plan start l made true n span t p e s m i h k = absurd (cc)

  pushed_at : (xs : List (LayerView Z)) (n : ℕ) (x y : LayerView Z) → length xs ≡ n →
      (start : ℕ) → slice_get (xs ++ x ∷ []) start ≡ Some y →
      (slice_get xs start ≡ Some y) ⊎ ((start ≡ n) × (x ≡ y))
  pushed_at [] n x y e zero h = inr (e, same_Some x y h)
  pushed_at [] n x y e (suc start) h = absurd (none-some y h)
  pushed_at (z ∷ xs) n x y e zero h = inl h
  pushed_at (z ∷ xs) n x y e (suc start) h =
      elim (pushed_at xs (length xs) x y refl start h) [
        | inl k ↦ inl k
        | inr k ↦ inr (omega (arith, k.0, e), k.1)
      ]

  -- none yet
  pub no_images : (plan : Outline) → AreImages flat image pin stake plan 0 []
  no_images plan = record { count_is = refl; each = λ start l h. absurd (none-some l h) }

  -- one image more
  pub images_more : (plan : Outline) (n : ℕ) (l : LayerView Z) (old new : List (LayerView Z)) →
      AreImages flat image pin stake plan n old → IsPlanImage flat image pin stake plan n l →
      new ≡ old ++ l ∷ [] → AreImages flat image pin stake plan (n + 1) new
  images_more plan n l old new h k e =
      subst (λ (ls : List (LayerView Z)). AreImages flat image pin stake plan (n + 1) ls) (sym e)
      (record {
        count_is = omega (arith, length-append old (l ∷ []), h.count_is);
        each = λ start y g. elim (pushed_at old n l y h.count_is start g) [
          | inl q ↦ h.each start y q
          | inr q ↦ subst (λ (z : LayerView Z). IsPlanImage flat image pin stake plan start z) q.1
              (subst (λ (m : ℕ). IsPlanImage flat image pin stake plan m l) (sym q.0) k)
        ];
      })

  -- the images are what a book asks of them
  pub images_stand : {S : Type 0} (plan : Outline) (count : ℕ)
      (is_context : ContextView S → Type 0) (is_layer : LayerView Z → Type 0)
      (images : List (LayerView Z)) → AreGrounds plan flat is_context is_layer →
      AreImages flat image pin stake plan count images → (start : ℕ) (l : LayerView Z) →
      slice_get images start ≡ Some l →
      is_layer l × IsImageOf start (kept_of (told flat image) l) (pin l.frozen)
  images_stand plan count is_context is_layer images g h start l e =
      let is = h.each start l e in (g.any_layer l is.of_plan, is.image_of)

-- ---- the sizes

-- no layer stands twice in a stack
distinct_stacks : (layers : List PlanLayer) (functions : List PlanFunction) →
    ((number : ℕ) → IsDistinct nat_eq (stack layers number)) →
    All (λ (s : Stack). IsDistinct nat_eq s.layers) (map (stack_on layers) functions)
distinct_stacks layers functions h = All-map (λ (s : Stack). IsDistinct nat_eq s.layers)
    (stack_on layers) functions (λ k d b. h (get_or functions k d).layer)

-- a layer that is there has its start
start_there : (layers : List PlanLayer) (starts i : ℕ) → AreLayers layers starts →
    i < length layers → start_of_one (slice_get layers i) < starts
start_there layers starts i h b = elim ((slice_get_cases layers i).1) [
  | inl w ↦ subst (λ (o : Option PlanLayer). start_of_one o < starts) (sym w.2)
      (h i w.0 w.2).start
  | inr w ↦ absurd (omega (arith, w.0, b))
]

all_there : (layers : List PlanLayer) (starts : ℕ) (functions : List PlanFunction) →
    AreLayers layers starts → AreFunctions functions (length layers) →
    AllByRecursion (λ (f : PlanFunction). (stack_on layers f).start < starts) functions
all_there layers starts [] h k = tt
all_there layers starts (f ∷ fs) h k = (
  start_there layers starts f.layer h (k 0 f refl),
  all_there layers starts fs h (λ number g e. k (suc number) g e),
)

below_both : (a b n : ℕ) → n < a → n < b → n < min a b
below_both a b n h k = omega (arith, h, k)

-- each stack has its image
starts_there : (plan : Outline) → IsPlan plan →
    HaveStarts (map (stack_on plan.layers) plan.functions) →
    All (λ (s : Stack). s.start < image_count plan) (map (stack_on plan.layers) plan.functions)
starts_there plan is few =
    let there = All-map (λ (s : Stack). s.start < length plan.starts) (stack_on plan.layers)
    plan.functions (All-from_recursion
    (λ (f : PlanFunction). (stack_on plan.layers f).start < length plan.starts) plan.functions
    (all_there plan.layers (length plan.starts) plan.functions is.parts.layers
    is.parts.functions)) in
    λ k d b. below_both (length plan.starts) start_limit
    (get_or (map (stack_on plan.layers) plan.functions) k d).start (there k d b) (few k d b)

-- a book may have these sizes, with so many images
pub may_open : (plan : Outline) (requests images : ℕ) (sizes : Extents) → IsPlan plan →
    ((layers : List PlanLayer) (starts number : ℕ) → AreLayers layers starts →
    IsDistinct nat_eq (stack layers number)) → HaveStarts sizes.stacks →
    requests ≤ most_requests → images ≡ image_count plan → sizes ≡ sizes_for plan requests →
    IsOpenable sizes images
may_open plan requests images sizes is apart few r n e =
    subst (λ (x : Extents). IsOpenable x images) (sym e) (record {
      sized = record {
        room = is.parts.numbers.room.0;
        distinct = distinct_stacks plan.layers plan.functions
            (λ number. apart plan.layers (length plan.starts) number is.parts.layers);
      };
      requests = r;
      root = omega arith;
      frames = let f = is.parts.numbers.frames.1 in omega (arith, f);
      starts = subst (λ (m : ℕ). All (λ (s : Stack). s.start < m)
          (map (stack_on plan.layers) plan.functions)) (sym n)
          (starts_there plan is (subst (λ (x : Extents). HaveStarts x.stacks) e few));
    })

-- over copied pages nothing is asked of a stake
pub no_root : {A : Type 0} (root : ℕ) → root ≡ 0 → root ≡ 1 → A
no_root root e h = absurd (omega (arith, e, h))
