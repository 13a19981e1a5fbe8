-- A context that serves a request is captured as a layer, and serves on from there.
use Rattle.std.proofs.Common.{◌≡◌, ℕ, true, false, List, [], ◌∷◌, Option, None, Some}
use Rattle.std.proofs.Common.{refl, sym, ◌∙◌, ap, subst}
use Rattle.std.specs.List.{list_any}
use Rattle.std.proofs.lemmas.Option.{none-some, same_Some}
use Rattle.journal_model.specs.Extents.{Extents}
use Rattle.journal_model.specs.State.{State, numbered, stack_of, layer_above}
use Rattle.journal_model.specs.Names.{names_request, names_context}
use Rattle.journal_model.specs.Legal as legal
use Rattle.journal_model.specs.Legal.{after, after_all, owes_nothing, owed_after_built}
use Rattle.journal_model.specs.declared.event.Event.{Event}
use Rattle.journal_model.specs.declared.event.Event.TheVariants.{Built, Keep, Dup, Drop}
use Rattle.journal_model.specs.declared.state.ContextState.{ContextState}
use Rattle.journal_model.proofs.Folds.{go_on, all_more, none_first}
use Rattle.journal_model.proofs.Frames.{and_second, stood}
use Rattle.journal_model.proofs.Recents.{just}
use Rattle.service_laws.specs.Serving.{IsAtWork, IsServing}
use Rattle.service_laws.proofs.Looking.{both, is_that, layer_here, above_so}
use Rattle.service_laws.proofs.Staying.{work_open, work_stays, open_same}

-- a context may be captured as the layer above its place
pub serving_builds : (sizes : Extents) (s : State) (i c k : ℕ) (x : ContextState) →
    IsServing s i c x → layer_above x.layer (stack_of sizes x.function) ≡ Some k →
    legal.may_build sizes s c k ≡ true
unfolding legal.may_build
serving_builds sizes s i c k x w h = both _ _ (both _ _ w.owes (work_open s i c x w.work))
    (is_that _ k (above_so sizes s c x w.work.context ∙ h))

build_above : (sizes : Extents) (s : State) (c k : ℕ) → legal.may_build sizes s c k ≡ true →
    legal.above sizes s c ≡ Some k
unfolding legal.may_build
build_above sizes s c k m = just _ k (and_second _ _ m)

-- and where it was, that layer was the one above its place
pub built_above : (sizes : Extents) (s : State) (c k d : ℕ) (t : State) (x : ContextState) →
    after sizes s (Built c k d) ≡ Some t → numbered s.contexts c ≡ Some x →
    layer_above x.layer (stack_of sizes x.function) ≡ Some k
built_above sizes s c k d t x h e =
    sym (above_so sizes s c x e) ∙ build_above sizes s c k (stood _ _ t h).0

build_work : (sizes : Extents) (s : State) (i c k : ℕ) (x : ContextState) → IsAtWork s i c x →
    IsAtWork (legal.after_built sizes s c k) i c (record x { layer = Some k })
unfolding legal.after_built
build_work sizes s i c k x w = record {
  context = layer_here c k s.contexts x w.context;
  duty = w.duty;
  open_one = open_same s _ i refl ∙ w.open_one;
}

-- after it was captured it stands at the layer, and all else of it is as before
pub built_works : (sizes : Extents) (s : State) (c k d : ℕ) (t : State) (i : ℕ)
    (x : ContextState) → after sizes s (Built c k d) ≡ Some t → IsAtWork s i c x →
    IsAtWork t i c (record x { layer = Some k })
built_works sizes s c k d t i x h w = let r = stood _ _ t h in
    let P : State → Type 0 = λ z. IsAtWork z i c (record x { layer = Some k }) in
    subst P r.1 (build_work sizes s i c k x w)

-- what stands above it then is what stands above that layer
pub built_next : (sizes : Extents) (t : State) (i c k : ℕ) (x : ContextState) →
    IsAtWork t i c (record x { layer = Some k }) →
    legal.above sizes t c ≡ layer_above (Some k) (stack_of sizes x.function)
built_next sizes t i c k x w = above_so sizes t c (record x { layer = Some k }) w.context

built_on : (sizes : Extents) (s : State) (c k d : ℕ) (es : List Event) (next : Option State)
    (t : State) (i : ℕ) (x : ContextState) → after sizes s (Built c k d) ≡ next →
    IsAtWork s i c x → list_any (names_request i) es ≡ false →
    list_any (names_context c) es ≡ false → go_on sizes es next ≡ Some t →
    IsAtWork t i c (record x { layer = Some k })
built_on sizes s c k d es None t i x is w n m h = absurd (none-some t h)
built_on sizes s c k d es (Some u) t i x is w n m h =
    work_stays sizes u es t i c (record x { layer = Some k }) h n m
    (built_works sizes s c k d u i x is w)

-- so it does after further events that name neither it nor its request, where nothing is owed then
pub built_serves : (sizes : Extents) (s : State) (c k d : ℕ) (es : List Event) (t : State)
    (i : ℕ) (x : ContextState) → after_all sizes s (Built c k d ∷ es) ≡ Some t →
    IsAtWork s i c x → list_any (names_request i) es ≡ false →
    list_any (names_context c) es ≡ false → owes_nothing t.owed ≡ true →
    IsServing t i c (record x { layer = Some k })
built_serves sizes s c k d es t i x h w n m o = record {
  work = built_on sizes s c k d es (after sizes s (Built c k d)) t i x refl w n m
      (sym (all_more sizes s (Built c k d) es) ∙ h);
  owes = o;
}

-- # What is owed after the layer is kept

keep_owes : (s : State) (k : ℕ) → owes_nothing (legal.after_keep s k).owed ≡ true
unfolding legal.after_keep
keep_owes s k = refl

dup_owes : (s : State) → owes_nothing (legal.after_dup s).owed ≡ true
unfolding legal.after_dup
dup_owes s = refl

kept_owes : (sizes : Extents) (s : State) (k : ℕ) (t : State) →
    after sizes s (Keep k) ≡ Some t → owes_nothing t.owed ≡ true
kept_owes sizes s k t h = let r = stood _ _ t h in
    let P : State → Type 0 = λ z. owes_nothing z.owed ≡ true in subst P r.1 (keep_owes s k)

twice_owes : (sizes : Extents) (s : State) (k : ℕ) (t : State) →
    after sizes s (Dup k) ≡ Some t → owes_nothing t.owed ≡ true
twice_owes sizes s k t h = let r = stood _ _ t h in
    let P : State → Type 0 = λ z. owes_nothing z.owed ≡ true in subst P r.1 (dup_owes s)

-- the last of events leads to the state at their end
abbrev Ends : Extents → Event → State → Type 0
Ends sizes e t = (m : State) × (after sizes m e ≡ Some t)

one_at : (sizes : Extents) (s : State) (e : Event) (next : Option State) (t : State) →
    after sizes s e ≡ next → go_on sizes [] next ≡ Some t → Ends sizes e t
one_at sizes s e None t is h = absurd (none-some t h)
one_at sizes s e (Some m) t is h =
    (s, is ∙ ap (λ z. Some z) (same_Some m t (sym (none_first sizes m) ∙ h)))

ends_one : (sizes : Extents) (s : State) (e : Event) (t : State) →
    after_all sizes s (e ∷ []) ≡ Some t → Ends sizes e t
ends_one sizes s e t h =
    one_at sizes s e (after sizes s e) t refl (sym (all_more sizes s e []) ∙ h)

more_at : (sizes : Extents) (a : Event) (es : List Event) (e : Event) (next : Option State)
    (t : State) → ((m : State) → after_all sizes m es ≡ Some t → Ends sizes e t) →
    go_on sizes es next ≡ Some t → Ends sizes e t
more_at sizes a es e None t f h = absurd (none-some t h)
more_at sizes a es e (Some m) t f h = f m h

ends_two : (sizes : Extents) (s : State) (a e : Event) (t : State) →
    after_all sizes s (a ∷ e ∷ []) ≡ Some t → Ends sizes e t
ends_two sizes s a e t h = more_at sizes a (e ∷ []) e (after sizes s a) t
    (λ m k. ends_one sizes m e t k) (sym (all_more sizes s a (e ∷ [])) ∙ h)

ends_three : (sizes : Extents) (s : State) (a b e : Event) (t : State) →
    after_all sizes s (a ∷ b ∷ e ∷ []) ≡ Some t → Ends sizes e t
ends_three sizes s a b e t h = more_at sizes a (b ∷ e ∷ []) e (after sizes s a) t
    (λ m k. ends_two sizes m b e t k) (sym (all_more sizes s a (b ∷ e ∷ [])) ∙ h)

-- a layer that was kept already: the context serves on
pub built_dup_serves : (sizes : Extents) (s : State) (c k d : ℕ) (t : State) (i : ℕ)
    (x : ContextState) → after_all sizes s (Built c k d ∷ Dup k ∷ []) ≡ Some t →
    IsAtWork s i c x → IsServing t i c (record x { layer = Some k })
built_dup_serves sizes s c k d t i x h w =
    let p = ends_two sizes s (Built c k d) (Dup k) t h in
    built_serves sizes s c k d (Dup k ∷ []) t i x h w refl refl (twice_owes sizes p.0 k t p.1)

-- one that is kept
pub built_keep_serves : (sizes : Extents) (s : State) (c k d : ℕ) (t : State) (i : ℕ)
    (x : ContextState) → after_all sizes s (Built c k d ∷ Keep k ∷ []) ≡ Some t →
    IsAtWork s i c x → IsServing t i c (record x { layer = Some k })
built_keep_serves sizes s c k d t i x h w =
    let p = ends_two sizes s (Built c k d) (Keep k) t h in
    built_serves sizes s c k d (Keep k ∷ []) t i x h w refl refl (kept_owes sizes p.0 k t p.1)

-- and one for which another goes
pub built_drop_serves : (sizes : Extents) (s : State) (c k d j : ℕ) (t : State) (i : ℕ)
    (x : ContextState) → after_all sizes s (Built c k d ∷ Drop j ∷ Keep k ∷ []) ≡ Some t →
    IsAtWork s i c x → IsServing t i c (record x { layer = Some k })
built_drop_serves sizes s c k d j t i x h w =
    let p = ends_three sizes s (Built c k d) (Drop j) (Keep k) t h in
    built_serves sizes s c k d (Drop j ∷ Keep k ∷ []) t i x h w refl refl
    (kept_owes sizes p.0 k t p.1)
