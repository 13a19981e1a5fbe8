-- A context answers, and is parked: it is the first that is idle.
use Rattle.std.proofs.Common.{◌≡◌, ◌≢◌, ℕ, ◌+◌, ◌==◌, ◌||◌, Bool, true, false, cond}
use Rattle.std.proofs.Common.{List, [], ◌∷◌, ◌++◌}
use Rattle.std.proofs.Common.{Some, refl, sym, ◌∙◌, ap, subst}
use Rattle.std.specs.List.{find, list_any}
use Rattle.std.proofs.lemmas.Option.{same_Some}
use Rattle.journal_model.specs.Extents.{Extents}
use Rattle.journal_model.specs.State.{State, numbered}
use Rattle.journal_model.specs.Names.{names_context}
use Rattle.journal_model.specs.Legal as legal
use Rattle.journal_model.specs.Legal.{after, after_all, at_first, owes_nothing}
use Rattle.journal_model.specs.Reads.{served}
use Rattle.journal_model.specs.declared.event.Event.{Event}
use Rattle.journal_model.specs.declared.event.Event.TheVariants.{Answer, Evict, Park}
use Rattle.journal_model.specs.declared.event.Event.TheVariants.{Back}
use Rattle.journal_model.specs.declared.state.ContextState.{ContextState}
use Rattle.journal_model.specs.declared.state.Duty.TheVariants.{Idle, Serves}
use Rattle.journal_model.proofs.Apart.{Has}
use Rattle.journal_model.proofs.Folds.{none_first, parted}
use Rattle.journal_model.proofs.Frames.{and_second, stood}
use Rattle.journal_model.proofs.Recents.{last_has}
use Rattle.journal_model.proofs.Sound.{duty_of, serves_duty, reached_sound}
use Rattle.journal_laws.proofs.Folding.{joined_one}
use Rattle.journal_laws.proofs.Naming.{apart}
use Rattle.journal_laws.proofs.Serving.{grows}
use Rattle.journal_laws.proofs.Ties.{self}
use Rattle.service_laws.specs.Serving.{IsAtWork}
use Rattle.service_laws.proofs.Looking.{duty_here, used_here, serves_so}
use Rattle.service_laws.proofs.Staying.{contexts_stay}

-- # The answer

answer_context : (sizes : Extents) (s : State) (i c u : ℕ) (x : ContextState) →
    numbered s.contexts c ≡ Some x →
    numbered (legal.after_answer sizes s i c u).contexts c ≡ Some (record x { used = u + 1 })
unfolding legal.after_answer
answer_context sizes s i c u x h = used_here c (u + 1) s.contexts x h

-- a context that answered was used once more, and all else of it is as before
pub answered_context : (sizes : Extents) (s : State) (i c u : ℕ) (t : State)
    (x : ContextState) → after sizes s (Answer i c u) ≡ Some t → numbered s.contexts c ≡ Some x →
    numbered t.contexts c ≡ Some (record x { used = u + 1 })
answered_context sizes s i c u t x h e = let r = stood _ _ t h in
    let P : State → Type 0 = λ z. numbered z.contexts c ≡ Some (record x { used = u + 1 }) in
    subst P r.1 (answer_context sizes s i c u x e)

with_this : (b : Bool) (c i : ℕ) (xs : List ℕ) → (c == c) ≡ b → b ≡ true →
    cond b (xs ++ i ∷ []) xs ≡ xs ++ i ∷ []
with_this true c i xs e h = refl
with_this false c i xs e h = absurd (cc)

-- and served that request last
pub answered_served : (sizes : Extents) (es : List Event) (s : State) (i c u : ℕ) (t : State) →
    after_all sizes (at_first sizes) es ≡ Some s → after sizes s (Answer i c u) ≡ Some t →
    served t c ≡ served s c ++ i ∷ []
answered_served sizes es s i c u t h k =
    grows sizes es s t (Answer i c u) c h k
    ∙ with_this (c == c) c i (served s c) refl (self c)

-- # The park

park_parts : (s : State) (c : ℕ) (x : ContextState) → numbered s.contexts c ≡ Some x →
    ((legal.after_park s c).idle ≡ c ∷ s.idle)
    × (numbered (legal.after_park s c).contexts c ≡ Some (record x { duty = Idle }))
    × (owes_nothing (legal.after_park s c).owed ≡ true)
unfolding legal.after_park
park_parts s c x h = (refl, duty_here c Idle s.contexts x h, refl)

-- a parked context is the first that is idle, and all else of it is as before; nothing is owed
pub parked_is : (sizes : Extents) (s : State) (c : ℕ) (t : State) (x : ContextState) →
    after sizes s (Park c) ≡ Some t → numbered s.contexts c ≡ Some x →
    (t.idle ≡ c ∷ s.idle) × (numbered t.contexts c ≡ Some (record x { duty = Idle }))
    × (owes_nothing t.owed ≡ true)
parked_is sizes s c t x h e = let r = stood _ _ t h in
    let P : State → Type 0 = λ z. (z.idle ≡ c ∷ s.idle)
    × (numbered z.contexts c ≡ Some (record x { duty = Idle }))
    × (owes_nothing z.owed ≡ true) in
    subst P r.1 (park_parts s c x e)

find_first : (p : ℕ → Bool) (c : ℕ) (xs : List ℕ) → p c ≡ true → find p (c ∷ xs) ≡ Some c
find_first p c xs h = ap (λ b. cond b (Some c) (find p xs)) h

first_at : (f c : ℕ) (xs : List ContextState) (rest : List ℕ) →
    legal.is_for_one f (numbered xs c) ≡ true → legal.first_for f xs (c ∷ rest) ≡ Some c
unfolding legal.first_for
first_at f c xs rest h =
    find_first (λ (d : ℕ). legal.is_for_one f (numbered xs d)) c rest h

-- the first idle context is the next for its function
pub first_is_next : (s : State) (c : ℕ) (rest : List ℕ) (x : ContextState) →
    s.idle ≡ c ∷ rest → numbered s.contexts c ≡ Some x →
    legal.first_for x.function s.contexts s.idle ≡ Some c
first_is_next s c rest x h e =
    ap (λ z. legal.first_for x.function s.contexts z) h
    ∙ first_at x.function c s.contexts rest
    (ap (legal.is_for_one x.function) e ∙ self x.function)

-- so is a parked one
pub parked_is_next : (sizes : Extents) (s : State) (c : ℕ) (t : State) (x : ContextState) →
    after sizes s (Park c) ≡ Some t → numbered s.contexts c ≡ Some x →
    legal.first_for x.function t.contexts t.idle ≡ Some c
parked_is_next sizes s c t x h e = let p = parked_is sizes s c t x h e in
    first_is_next t c s.idle (record x { duty = Idle }) p.0 p.1

-- # From the answer to the park, and what comes after

one_event : (sizes : Extents) (s : State) (e : Event) (t : State) →
    after_all sizes s (e ∷ []) ≡ Some t → after sizes s e ≡ Some t
one_event sizes s e t h = sym (joined_one sizes s s [] e (none_first sizes s)) ∙ h

-- events that leave contexts and the idle list
abbrev pub Leaves : Extents → List Event → Type 0
Leaves sizes es = (s t : State) → after_all sizes s es ≡ Some t →
    (t.idle ≡ s.idle) × (t.contexts ≡ s.contexts)

pub none_leaves : (sizes : Extents) → Leaves sizes []
none_leaves sizes s t h = let e = same_Some s t (sym (none_first sizes s) ∙ h) in
    (ap (λ (x : State). x.idle) (sym e), ap (λ (x : State). x.contexts) (sym e))

back_same : (s : State) (n : ℕ) → ((legal.after_back s n).idle ≡ s.idle)
    × ((legal.after_back s n).contexts ≡ s.contexts)
unfolding legal.after_back
back_same s n = (refl, refl)

pub back_leaves : (sizes : Extents) (n : ℕ) → Leaves sizes (Back n ∷ [])
back_leaves sizes n s t h = let r = stood _ _ t (one_event sizes s (Back n) t h) in
    let P : State → Type 0 = λ z. (z.idle ≡ s.idle) × (z.contexts ≡ s.contexts) in
    subst P r.1 (back_same s n)

pub backs_leave : (sizes : Extents) (b : Bool) (n : ℕ) →
    Leaves sizes (cond b [] (Back n ∷ []))
backs_leave sizes true n = none_leaves sizes
backs_leave sizes false n = back_leaves sizes n

-- a context that answered and was parked, where nothing between named it
pub parks_is_next : (sizes : Extents) (s : State) (i c u : ℕ) (m b : List Event) (t : State)
    (x : ContextState) → after_all sizes s (Answer i c u ∷ (m ++ Park c ∷ b)) ≡ Some t →
    numbered s.contexts c ≡ Some x → list_any (names_context c) m ≡ false → Leaves sizes b →
    (numbered t.contexts c ≡ Some (record x { used = u + 1; duty = Idle }))
    × (legal.first_for x.function t.contexts t.idle ≡ Some c)
parks_is_next sizes s i c u m b t x h e n l =
    let p = parted sizes s (Answer i c u ∷ []) (m ++ Park c ∷ b) t h in
    let q = parted sizes p.between m (Park c ∷ b) t p.second in
    let r = parted sizes q.between (Park c ∷ []) b t q.second in
    let a = answered_context sizes s i c u p.between x
    (one_event sizes s (Answer i c u) p.between p.first) e in
    let k = parked_is sizes q.between c r.between (record x { used = u + 1 })
    (one_event sizes q.between (Park c) r.between r.first)
    (contexts_stay sizes p.between m q.between c q.first n ∙ a) in
    let z = l r.between t r.second in
    let d : numbered t.contexts c ≡ Some (record x { used = u + 1; duty = Idle }) =
    ap (λ xs. numbered xs c) z.1 ∙ k.1 in
    (d, first_is_next t c q.between.idle (record x { used = u + 1; duty = Idle }) (z.0 ∙ k.0) d)

evict_idle : (sizes : Extents) (s : State) (e : ℕ) → legal.may_evict sizes s e ≡ true →
    Has e s.idle
unfolding legal.may_evict
evict_idle sizes s e h = last_has s.idle e (and_second _ _ h)

busy_is_not_idle : (s : State) (c e i : ℕ) → duty_of s.contexts e ≡ Some Idle →
    duty_of s.contexts c ≡ Some (Serves i) → e ≢ c
busy_is_not_idle s c e i h k q = let f : Some Idle ≡ Some (Serves i) =
    sym h ∙ (ap (λ n. duty_of s.contexts n) q ∙ k) in cc

-- what is evicted is another context than one that serves
pub evict_is_another : (sizes : Extents) (es : List Event) (s : State) (e : ℕ) (t : State)
    (c i : ℕ) → after_all sizes (at_first sizes) es ≡ Some s → legal.serves s c i ≡ true →
    after sizes s (Evict e) ≡ Some t → names_context c (Evict e) ≡ false
evict_is_another sizes es s e t c i h v k = apart e c (busy_is_not_idle s c e i
    ((reached_sound sizes es s h).idle e (evict_idle sizes s e (stood _ _ t k).0))
    (serves_duty s c i v))

-- a context that answered and was parked, for which another went
pub parks_evicting_is_next : (sizes : Extents) (es : List Event) (s : State) (i c u e : ℕ)
    (b : List Event) (t : State) (x : ContextState) →
    after_all sizes (at_first sizes) es ≡ Some s →
    after_all sizes s (Answer i c u ∷ Evict e ∷ Park c ∷ b) ≡ Some t →
    IsAtWork s i c x → Leaves sizes b →
    (numbered t.contexts c ≡ Some (record x { used = u + 1; duty = Idle }))
    × (legal.first_for x.function t.contexts t.idle ≡ Some c)
parks_evicting_is_next sizes es s i c u e b t x h k w l =
    let p = parted sizes s (Answer i c u ∷ []) (Evict e ∷ Park c ∷ b) t k in
    let q = parted sizes p.between (Evict e ∷ []) (Park c ∷ b) t p.second in
    let a = one_event sizes s (Answer i c u) p.between p.first in
    let d = answered_context sizes s i c u p.between x a w.context in
    let n = evict_is_another sizes (es ++ Answer i c u ∷ []) p.between e q.between c i
    (joined_one sizes (at_first sizes) s es (Answer i c u) h ∙ a)
    (serves_so p.between c i (record x { used = u + 1 }) d w.duty)
    (one_event sizes p.between (Evict e) q.between q.first) in
    parks_is_next sizes s i c u (Evict e ∷ []) b t x k w.context
    (ap (λ v. v || false) n) l
