-- Each context that serves serves an open request.
use Rattle.std.proofs.Common.{◌≡◌, ◌≢◌, ◌⊎◌, inl, inr, ℕ, ◌+◌, Bool, true, false, List, [], ◌∷◌}
use Rattle.std.proofs.Common.{length, Option, None, Some, refl, sym, ◌∙◌, ap, subst}
use Rattle.std.proofs.Common.{cond, slice_get, ◌==◌, ◌-◌}
use Rattle.std.proofs.lemmas.Option.{none-some, same_Some}
use Rattle.book_model.specs.Steps.{built_events, ended, parked_events}
use Rattle.journal_model.specs.Extents.{Extents}
use Rattle.journal_model.specs.Legal as legal
use Rattle.journal_model.specs.Legal.{after, after_all, at_first, owes_nothing, with_duty}
use Rattle.journal_model.specs.Legal.{with_layer, with_used}
use Rattle.journal_model.specs.State.{State, numbered}
use Rattle.journal_model.specs.declared.event.Event.{Event}
use Rattle.journal_model.specs.declared.event.Event.TheVariants.{Take, Deploy}
use Rattle.journal_model.specs.declared.event.Event.TheVariants.{Built, Keep, Dup, Drop, Evict}
use Rattle.journal_model.specs.declared.event.Event.TheVariants.{Park, End, Want}
use Rattle.journal_model.specs.declared.event.Event.TheVariants.{Answer}
use Rattle.journal_model.specs.declared.state.ContextState.{ContextState}
use Rattle.journal_model.specs.declared.state.Duty.{Duty}
use Rattle.journal_model.specs.declared.state.Duty.TheVariants.{Idle, Serves, Over}
use Rattle.journal_model.specs.declared.state.Standing.{Standing}
use Rattle.journal_model.specs.declared.state.Standing.TheVariants.{Open, Answered, Wanted}
use Rattle.journal_model.proofs.Frames.{and_first, and_second, stood}
use Rattle.journal_model.proofs.Looks.{decide, look_only, look_pushed}
use Rattle.journal_model.proofs.Sound.{duty_of}
use Rattle.journal_laws.proofs.Naming as naming
use Rattle.journal_laws.proofs.Numbers.{next_none}
use Rattle.journal_laws.proofs.Serving.{duty_serves, given_so}
use Rattle.journal_laws.proofs.Ties.{duty_at, kept_field, waiting_is}
use Rattle.service_laws.specs.Serving.{IsServing}
use Rattle.service_model.specs.Going.{wanted_events}
use Rattle.service_model.specs.Staying.{IsSettled, TurnsOnly, WasStarted}
use Rattle.stay_laws.proofs.Turning.{built_leaves, deployed_opens, ended_closes, ends_there}
use Rattle.stay_laws.proofs.Turning.{first_of, parked_closes, start_adds, taken_opens}
use Rattle.stay_laws.proofs.Turning.{wanted_closes}

-- ---- what contexts serve

-- context c serves request j
abbrev Busy : List ContextState → (c j : ℕ) → Type 0
Busy xs c j = duty_of xs c ≡ Some (Serves j)

busy_at : (o : Option ContextState) (j : ℕ) → duty_at o ≡ Some (Serves j) →
    (x : ContextState) × (o ≡ Some x) × (x.duty ≡ Serves j)
busy_at None j h = absurd (none-some (Serves j) h)
busy_at (Some x) j h = (x, refl, same_Some x.duty (Serves j) h)

settles : (s : State) → ((c j : ℕ) → Busy s.contexts c j → legal.is_open s j ≡ true) →
    owes_nothing s.owed ≡ true → IsSettled s
settles s h o = record {
  are_open = λ c j x e d. h c j (ap duty_at e ∙ ap (λ (y : Duty). Some y) d);
  owes = o;
}

settled_open : (s : State) → IsSettled s → (c j : ℕ) → Busy s.contexts c j →
    legal.is_open s j ≡ true
settled_open s h c j b = let x = busy_at (numbered s.contexts c) j b in
    h.are_open c j x.0 x.1 x.2

serves_same : (i j : ℕ) → Serves i ≡ Serves j → i ≡ j
serves_same i j h = cc

-- the contexts that serve in the one list do so in the other
abbrev Fewer : (xs ys : List ContextState) → Type 0
Fewer xs ys = (c j : ℕ) → Busy ys c j → Busy xs c j

duty_only : (c : ℕ) (d e : Duty) (xs : List ContextState) →
    duty_of (with_duty c d xs) c ≡ Some e → e ≡ d
unfolding with_duty
duty_only c d e xs h = look_only (λ (x : ContextState). Some x.duty)
    (λ (x : ContextState). record x { duty = d }) d e c xs (λ x. refl) h

-- a context that serves no longer is none of those that do
freed : (c : ℕ) (d : Duty) (xs : List ContextState) → ((j : ℕ) → Serves j ≢ d) →
    (m j : ℕ) → Busy (with_duty c d xs) m j → (m ≢ c) × Busy xs m j
freed c d xs n m j h = elim (decide m c) [
  | inl e ↦ absurd (let P : ℕ → Type 0 = λ q. Busy (with_duty c d xs) q j in
      n j (duty_only c d (Serves j) xs (subst P e h)))
  | inr o ↦ (o, sym (ap duty_at (naming.duty_other c m d xs o)) ∙ h)
]

not_idle : (j : ℕ) → Serves j ≢ Idle
not_idle j h = cc

not_over : (j : ℕ) → Serves j ≢ Over
not_over j h = cc

layer_fewer : (c k : ℕ) (xs : List ContextState) → Fewer xs (with_layer c k xs)
unfolding with_layer
layer_fewer c k xs m j h = sym (kept_field duty_at
    (λ (x : ContextState). record x { layer = Some k }) c m xs (λ x. refl)) ∙ h

used_fewer : (c u : ℕ) (xs : List ContextState) → Fewer xs (with_used c u xs)
unfolding with_used
used_fewer c u xs m j h = sym (kept_field duty_at
    (λ (x : ContextState). record x { used = u }) c m xs (λ x. refl)) ∙ h

-- ---- events

to_fewer : (s x t : State) → x ≡ t → Fewer s.contexts x.contexts → Fewer s.contexts t.contexts
to_fewer s x t e h = let P : State → Type 0 = λ z. Fewer s.contexts z.contexts in subst P e h

built_fewer : (sizes : Extents) (s t : State) (c k d : ℕ) →
    after sizes s (Built c k d) ≡ Some t → Fewer s.contexts t.contexts
unfolding legal.after_built
built_fewer sizes s t c k d h = to_fewer s _ t (stood _ _ t h).1 (layer_fewer c k s.contexts)

answer_fewer : (sizes : Extents) (s t : State) (i c u : ℕ) →
    after sizes s (Answer i c u) ≡ Some t → Fewer s.contexts t.contexts
unfolding legal.after_answer
answer_fewer sizes s t i c u h =
    to_fewer s _ t (stood _ _ t h).1 (used_fewer c (u + 1) s.contexts)

evict_fewer : (sizes : Extents) (s t : State) (e : ℕ) → after sizes s (Evict e) ≡ Some t →
    Fewer s.contexts t.contexts
unfolding legal.after_evict
evict_fewer sizes s t e h = to_fewer s _ t (stood _ _ t h).1
    (λ m j b. (freed e Over s.contexts not_over m j b).1)

keep_fewer : (sizes : Extents) (s t : State) (k : ℕ) → after sizes s (Keep k) ≡ Some t →
    Fewer s.contexts t.contexts × (owes_nothing t.owed ≡ true)
unfolding legal.after_keep
keep_fewer sizes s t k h = let r = stood _ _ t h in
    (to_fewer s _ t r.1 (λ m j b. b), ap (λ (z : State). owes_nothing z.owed) (sym r.1))

dup_fewer : (sizes : Extents) (s t : State) (k : ℕ) → after sizes s (Dup k) ≡ Some t →
    Fewer s.contexts t.contexts × (owes_nothing t.owed ≡ true)
unfolding legal.after_dup
dup_fewer sizes s t k h = let r = stood _ _ t h in
    (to_fewer s _ t r.1 (λ m j b. b), ap (λ (z : State). owes_nothing z.owed) (sym r.1))

drop_fewer : (sizes : Extents) (s t : State) (k : ℕ) → after sizes s (Drop k) ≡ Some t →
    Fewer s.contexts t.contexts
unfolding legal.after_drop
drop_fewer sizes s t k h = to_fewer s _ t (stood _ _ t h).1 (λ m j b. b)

want_fewer : (sizes : Extents) (s t : State) (i : ℕ) → after sizes s (Want i) ≡ Some t →
    Fewer s.contexts t.contexts × (t.owed ≡ s.owed)
unfolding legal.after_standing
want_fewer sizes s t i h = let r = stood _ _ t h in
    (to_fewer s _ t r.1 (λ m j b. b), ap (λ (z : State). z.owed) (sym r.1))

-- the context serves no longer, all that do did so before, and nothing is owed
abbrev Frees : (s : State) → (c : ℕ) → (t : State) → Type 0
Frees s c t = ((m j : ℕ) → Busy t.contexts m j → (m ≢ c) × Busy s.contexts m j)
    × (owes_nothing t.owed ≡ true)

to_frees : (s x t : State) (c : ℕ) → x ≡ t → Frees s c x → Frees s c t
to_frees s x t c e h = let P : State → Type 0 = λ z. Frees s c z in subst P e h

park_frees : (sizes : Extents) (s t : State) (c : ℕ) → after sizes s (Park c) ≡ Some t →
    Frees s c t
unfolding legal.after_park
park_frees sizes s t c h = to_frees s _ t c (stood _ _ t h).1
    (freed c Idle s.contexts not_idle, refl)

end_frees : (sizes : Extents) (s t : State) (c : ℕ) → after sizes s (End c) ≡ Some t →
    Frees s c t
unfolding legal.after_end
end_frees sizes s t c h = to_frees s _ t c (stood _ _ t h).1
    (freed c Over s.contexts not_over, refl)

fewer_frees : (s m t : State) (c : ℕ) → Fewer s.contexts m.contexts → Frees m c t →
    Frees s c t
fewer_frees s m t c f (g, o) = (λ n j b. let p = g n j b in (p.0, f n j p.1), o)

-- ---- requests

open_apart : (i : ℕ) (z : Standing) (s t : State) → TurnsOnly i z s t → (j : ℕ) → j ≢ i →
    legal.is_open s j ≡ true → legal.is_open t j ≡ true
unfolding legal.is_open
open_apart i z s t h j n o = ap legal.is_open_one (h.others j n) ∙ o

open_now : (i : ℕ) (s t : State) → TurnsOnly i Open s t → legal.is_open t i ≡ true
unfolding legal.is_open
open_now i s t h = ap legal.is_open_one h.after_is ∙ ap legal.is_open_standing h.standing

open_still : (i : ℕ) (s t : State) → TurnsOnly i Open s t → (j : ℕ) →
    legal.is_open s j ≡ true → legal.is_open t j ≡ true
open_still i s t h j o = elim (decide j i) [
  | inl e ↦ (let P : ℕ → Type 0 = λ q. legal.is_open t q ≡ true in
      subst P (sym e) (open_now i s t h))
  | inr n ↦ open_apart i Open s t h j n o
]

open_same : (s t : State) (j : ℕ) → t.requests ≡ s.requests → legal.is_open s j ≡ true →
    legal.is_open t j ≡ true
unfolding legal.is_open
open_same s t j e o = ap (λ rs. legal.is_open_one (numbered rs j)) e ∙ o

not_next : (s : State) (j : ℕ) → legal.is_open s j ≡ true → j ≢ length s.requests + 1
unfolding legal.is_open
not_next s j o e = false_true (sym (ap legal.is_open_one (ap (λ n. numbered s.requests n) e
    ∙ next_none s.requests)) ∙ o) where
      false_true : false ≡ true → ⊥
      false_true h = cc

open_started : (i f k : ℕ) (s t : State) → WasStarted i f k s t → (j : ℕ) →
    legal.is_open s j ≡ true → legal.is_open t j ≡ true
unfolding legal.is_open
open_started i f k s t h j o = ap legal.is_open_one
    (h.others j (λ e. not_next s j o (e ∙ h.number_is))) ∙ o

-- ---- one context a request

only_one : (sizes : Extents) (first : List Event) (s : State) (i c m : ℕ) →
    after_all sizes (at_first sizes) first ≡ Some s → legal.serves s c i ≡ true →
    Busy s.contexts m i → m ≡ c
only_one sizes first s i c m reached v b = same_Some m c
    (sym (given_so sizes first s i m reached (duty_serves s m i b))
    ∙ given_so sizes first s i c reached v)

-- where the context that served the closed request serves no longer, the others serve others
freed_settled : (sizes : Extents) (first : List Event) (s : State) (i c : ℕ) (z : Standing)
    (t : State) → after_all sizes (at_first sizes) first ≡ Some s → IsSettled s →
    legal.serves s c i ≡ true → TurnsOnly i z s t → Frees s c t → IsSettled t
freed_settled sizes first s i c z t reached h v turns (g, owes) = settles t
    (λ m j b. let p = g m j b in open_apart i z s t turns j
    (λ e. p.0 (only_one sizes first s i c m reached v
    (p.1 ∙ ap (λ (q : ℕ). Some (Serves q)) e)))
    (settled_open s h m j p.1)) owes

-- ---- the steps

nothing_at : {A : Type 0} (none : List A) (b : Bool) (k : ℕ) → none ≡ [] →
    cond b None (slice_get none k) ≡ None
nothing_at none true k e = refl
nothing_at none false k e = ap (λ xs. slice_get xs k) e

none_numbered : (none : List ContextState) (c : ℕ) → none ≡ [] → numbered none c ≡ None
unfolding numbered
none_numbered none c e = nothing_at none (c == 0) (c - 1) e

pub settled_first : (sizes : Extents) → IsSettled (at_first sizes)
settled_first sizes = settles (at_first sizes)
    (λ c j b. absurd (none-some (Serves j) (sym (ap duty_at
    (none_numbered (at_first sizes).contexts c refl)) ∙ b))) refl

pub settled_started : (sizes : Extents) (s : State) (i f k : ℕ) → IsSettled s →
    legal.may_start sizes s i f k ≡ true → IsSettled (legal.after_start s f k)
unfolding legal.after_start
settled_started sizes s i f k h m = settles (legal.after_start s f k)
    (λ c j b. open_started i f k s (legal.after_start s f k) (start_adds sizes s i f k m) j
    (settled_open s h c j b)) h.owes

take_busy : (sizes : Extents) (s t : State) (c i : ℕ) → after sizes s (Take c i) ≡ Some t →
    ((m j : ℕ) → Busy t.contexts m j → (j ≡ i) ⊎ Busy s.contexts m j) × (t.owed ≡ s.owed)
unfolding legal.after_take
take_busy sizes s t c i h = let r = stood _ _ t h in
    let P : State → Type 0 = λ z. ((m j : ℕ) → Busy z.contexts m j →
    (j ≡ i) ⊎ Busy s.contexts m j) × (z.owed ≡ s.owed) in
    subst P r.1 ((λ m j b. busy_before m j b), refl) where
      busy_before : (m j : ℕ) → Busy (with_duty c (Serves i) s.contexts) m j →
          (j ≡ i) ⊎ Busy s.contexts m j
      busy_before m j b = elim (decide m c) [
        | inl e ↦ inl (let Q : ℕ → Type 0 = λ q. Busy (with_duty c (Serves i) s.contexts) q j in
            serves_same j i (duty_only c (Serves i) (Serves j) s.contexts (subst Q e b)))
        | inr n ↦ inr (sym (ap duty_at (naming.duty_other c m (Serves i) s.contexts n)) ∙ b)
      ]

-- where the context that is new serves the request, which is open
served_settled : (s t : State) (i : ℕ) → IsSettled s → TurnsOnly i Open s t →
    ((m j : ℕ) → Busy t.contexts m j → (j ≡ i) ⊎ Busy s.contexts m j) → t.owed ≡ s.owed →
    IsSettled t
served_settled s t i h turns g owes = settles t
    (λ m j b. elim (g m j b) [
      | inl e ↦ (let P : ℕ → Type 0 = λ q. legal.is_open t q ≡ true in
          subst P (sym e) (open_now i s t turns))
      | inr before ↦ open_still i s t turns j (settled_open s h m j before)
    ]) (ap owes_nothing owes ∙ h.owes)

pub settled_taken : (sizes : Extents) (s : State) (c i : ℕ) (t : State) → IsSettled s →
    after_all sizes s (Take c i ∷ []) ≡ Some t → IsSettled t
settled_taken sizes s c i t h l = let p = first_of sizes s t _ [] l in
    let P : State → Type 0 = λ z. after sizes s (Take c i) ≡ Some z in
    let b = take_busy sizes s t c i (subst P (ends_there sizes p.0 t p.2) p.1) in
    served_settled s t i h (taken_opens sizes s c i t l) b.0 b.1

deploy_busy : (sizes : Extents) (s t : State) (c : ℕ) (k : Option ℕ) (i n : ℕ) →
    after sizes s (Deploy c k i n) ≡ Some t →
    ((m j : ℕ) → Busy t.contexts m j → (j ≡ i) ⊎ Busy s.contexts m j) × (t.owed ≡ s.owed)
unfolding legal.after_deploy
deploy_busy sizes s t c k i n h = let r = stood _ _ t h in
    let P : State → Type 0 = λ z. ((m j : ℕ) → Busy z.contexts m j →
    (j ≡ i) ⊎ Busy s.contexts m j) × (z.owed ≡ s.owed) in
    subst P r.1 (
      (λ m j b. elim (look_pushed (λ (x : ContextState). Some x.duty) s.contexts m _
          (Serves j) b) [
            | inl before ↦ inr before
            | inr q ↦ inl (serves_same j i (sym (same_Some (Serves i) (Serves j) q.1)))
          ]),
      refl,
    )

pub settled_deployed : (sizes : Extents) (s : State) (c : ℕ) (from : Option ℕ) (i n : ℕ)
    (t : State) → IsSettled s → after_all sizes s (Deploy c from i n ∷ []) ≡ Some t →
    IsSettled t
settled_deployed sizes s c from i n t h l = let p = first_of sizes s t _ [] l in
    let P : State → Type 0 = λ z. after sizes s (Deploy c from i n) ≡ Some z in
    let b = deploy_busy sizes s t c from i n (subst P (ends_there sizes p.0 t p.2) p.1) in
    served_settled s t i h (deployed_opens sizes s c from i n t l) b.0 b.1

-- the last of several events
last_one : (sizes : Extents) (s t : State) (e : Event) → after_all sizes s (e ∷ []) ≡ Some t →
    after sizes s e ≡ Some t
last_one sizes s t e h = let p = first_of sizes s t e [] h in
    let P : State → Type 0 = λ z. after sizes s e ≡ Some z in
    subst P (ends_there sizes p.0 t p.2) p.1

built_settled : (s t : State) → IsSettled s → t.requests ≡ s.requests →
    Fewer s.contexts t.contexts → owes_nothing t.owed ≡ true → IsSettled t
built_settled s t h e f o = settles t
    (λ c j b. open_same s t j e (settled_open s h c j (f c j b))) o

pub settled_built : (sizes : Extents) (s : State) (c k d : ℕ) (twice : Bool) (last : Option ℕ)
    (t : State) → IsSettled s → after_all sizes s (built_events c k d twice last) ≡ Some t →
    IsSettled t
settled_built sizes s c k d true last t h l = let p = first_of sizes s t _ _ l in
    let q = dup_fewer sizes p.0 t k (last_one sizes p.0 t _ p.2) in
    built_settled s t h (built_leaves sizes s c k d true last t l)
    (λ m j b. built_fewer sizes s p.0 c k d p.1 m j (q.0 m j b)) q.1
settled_built sizes s c k d false None t h l = let p = first_of sizes s t _ _ l in
    let q = keep_fewer sizes p.0 t k (last_one sizes p.0 t _ p.2) in
    built_settled s t h (built_leaves sizes s c k d false None t l)
    (λ m j b. built_fewer sizes s p.0 c k d p.1 m j (q.0 m j b)) q.1
settled_built sizes s c k d false (Some o) t h l = let p = first_of sizes s t _ _ l in
    let n = first_of sizes p.0 t _ _ p.2 in
    let q = keep_fewer sizes n.0 t k (last_one sizes n.0 t _ n.2) in
    built_settled s t h (built_leaves sizes s c k d false (Some o) t l)
    (λ m j b. built_fewer sizes s p.0 c k d p.1 m j
    (drop_fewer sizes p.0 n.0 o n.1 m j (q.0 m j b))) q.1

may_serve : (s : State) (i c u : ℕ) → legal.may_answer s i c u ≡ true →
    legal.serves s c i ≡ true
unfolding legal.may_answer
may_serve s i c u m = and_second _ _ (and_first _ _ m)

answer_serves : (sizes : Extents) (s t : State) (i c u : ℕ) →
    after sizes s (Answer i c u) ≡ Some t → legal.serves s c i ≡ true
answer_serves sizes s t i c u h = may_serve s i c u (stood _ _ t h).0

pub settled_parked : (sizes : Extents) (first : List Event) (s : State) (i c u : ℕ)
    (last : Option ℕ) (t : State) → after_all sizes (at_first sizes) first ≡ Some s →
    IsSettled s → after_all sizes s (parked_events i c u 0 last) ≡ Some t → IsSettled t
settled_parked sizes first s i c u None t reached h l = let p = first_of sizes s t _ _ l in
    freed_settled sizes first s i c Answered t reached h (answer_serves sizes s p.0 i c u p.1)
    (parked_closes sizes s i c u None t l) (fewer_frees s p.0 t c
    (answer_fewer sizes s p.0 i c u p.1) (park_frees sizes p.0 t c
    (last_one sizes p.0 t _ p.2)))
settled_parked sizes first s i c u (Some e) t reached h l = let p = first_of sizes s t _ _ l in
    let n = first_of sizes p.0 t _ _ p.2 in
    freed_settled sizes first s i c Answered t reached h (answer_serves sizes s p.0 i c u p.1)
    (parked_closes sizes s i c u (Some e) t l) (fewer_frees s p.0 t c
    (answer_fewer sizes s p.0 i c u p.1) (fewer_frees p.0 n.0 t c
    (evict_fewer sizes p.0 n.0 e n.1) (park_frees sizes n.0 t c
    (last_one sizes n.0 t _ n.2))))

pub settled_over : (sizes : Extents) (first : List Event) (s : State) (i c u : ℕ) (t : State) →
    after_all sizes (at_first sizes) first ≡ Some s → IsSettled s →
    after_all sizes s (ended i c (Some u)) ≡ Some t → IsSettled t
settled_over sizes first s i c u t reached h l = let p = first_of sizes s t _ _ l in
    freed_settled sizes first s i c Answered t reached h (answer_serves sizes s p.0 i c u p.1)
    (ended_closes sizes s i c u t l) (fewer_frees s p.0 t c
    (answer_fewer sizes s p.0 i c u p.1) (end_frees sizes p.0 t c (last_one sizes p.0 t _ p.2)))

serving_serves : (s : State) (i c : ℕ) (x : ContextState) → IsServing s i c x →
    legal.serves s c i ≡ true
serving_serves s i c x v = duty_serves s c i
    (ap duty_at v.work.context ∙ ap (λ (d : Duty). Some d) v.work.duty)

pub settled_wanted : (sizes : Extents) (first : List Event) (s : State) (i c : ℕ)
    (x : ContextState) (t : State) → after_all sizes (at_first sizes) first ≡ Some s →
    IsSettled s → IsServing s i c x → after_all sizes s (wanted_events i (Some c)) ≡ Some t →
    IsSettled t
settled_wanted sizes first s i c x t reached h v l = let p = first_of sizes s t _ _ l in
    freed_settled sizes first s i c Wanted t reached h (serving_serves s i c x v)
    (wanted_closes sizes s i (Some c) t l) (fewer_frees s p.0 t c
    (want_fewer sizes s p.0 i p.1).0 (end_frees sizes p.0 t c (last_one sizes p.0 t _ p.2)))

waiting_alone : (sizes : Extents) (first : List Event) (s : State) (i m : ℕ) →
    after_all sizes (at_first sizes) first ≡ Some s → legal.is_waiting s i ≡ true →
    Busy s.contexts m i → ⊥
unfolding legal.given_to
waiting_alone sizes first s i m reached w b = let z = waiting_is s i w in
    none-some m (sym (ap legal.given_to_one z.open_at.entry ∙ z.none)
    ∙ given_so sizes first s i m reached (duty_serves s m i b))

pub settled_unserved : (sizes : Extents) (first : List Event) (s : State) (i : ℕ) (t : State) →
    after_all sizes (at_first sizes) first ≡ Some s → IsSettled s →
    legal.is_waiting s i ≡ true → after_all sizes s (wanted_events i None) ≡ Some t →
    IsSettled t
settled_unserved sizes first s i t reached h w l =
    let q = want_fewer sizes s t i (last_one sizes s t _ l) in settles t
    (λ m j b. let before = q.0 m j b in open_apart i Wanted s t
    (wanted_closes sizes s i None t l) j (λ e. waiting_alone sizes first s i m reached w
    (before ∙ ap (λ (n : ℕ). Some (Serves n)) e)) (settled_open s h m j before))
    (ap owes_nothing q.1 ∙ h.owes)
