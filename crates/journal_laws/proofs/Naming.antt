-- What an event leaves as it is: requests and contexts that it doesn't name, and closed requests.
use Rattle.std.proofs.Common.{◌≡◌, ◌≢◌, ℕ, ◌+◌, ◌==◌, Bool, true, false, List, [], ◌∷◌}
use Rattle.std.proofs.Common.{Option, None, Some, length, refl, sym, ◌∙◌, ap}
use Rattle.std.proofs.lemmas.Option.{none-some, same_Some}
use Rattle.journal_model.specs.Extents.{Extents}
use Rattle.journal_model.specs.State.{State, numbered}
use Rattle.journal_model.specs.Names.{names_request, names_context}
use Rattle.journal_model.specs.Legal as legal
use Rattle.journal_model.specs.Legal.{after, with_standing, with_service, with_duty, with_layer}
use Rattle.journal_model.specs.Legal.{with_used, is_open_standing}
use Rattle.journal_model.specs.declared.event.Event.{Event}
use Rattle.journal_model.specs.declared.event.Event.TheVariants.{Start, Take, Deploy, Refill}
use Rattle.journal_model.specs.declared.event.Event.TheVariants.{Built, Keep, Dup, Drop, Evict}
use Rattle.journal_model.specs.declared.event.Event.TheVariants.{Park, End, Back, Refuse, Want}
use Rattle.journal_model.specs.declared.event.Event.TheVariants.{Answer}
use Rattle.journal_model.specs.declared.answer.How.{How}
use Rattle.journal_model.specs.declared.state.Standing.{Standing}
use Rattle.journal_model.specs.declared.state.RequestState.{RequestState}
use Rattle.journal_model.specs.declared.state.Duty.{Duty}
use Rattle.journal_model.specs.declared.state.ContextState.{ContextState}
use Rattle.std.proofs.Common.{◌||◌}
use Rattle.std.specs.List.{list_any}
use Rattle.journal_model.specs.Legal.{after_all}
use Rattle.journal_model.proofs.Folds.{go_on, all_more, none_first}
use Rattle.journal_model.proofs.Recents.{same, differ}
use Rattle.journal_model.proofs.Frames.{and_first, and_second, stood}
use Rattle.journal_laws.proofs.Numbers.{changed_other, pushed_other, next_none}

pub standing_other : (i j : ℕ) (t : Standing) (p : Option ℕ) (rs : List RequestState) → j ≢ i →
    numbered (with_standing i t p rs) j ≡ numbered rs j
unfolding with_standing
standing_other i j t p rs h = changed_other _ i j rs h

pub service_other : (i j : ℕ) (w : How) (c u : ℕ) (rs : List RequestState) → j ≢ i →
    numbered (with_service i w c u rs) j ≡ numbered rs j
unfolding with_service
service_other i j w c u rs h = changed_other _ i j rs h

pub duty_other : (c m : ℕ) (d : Duty) (xs : List ContextState) → m ≢ c →
    numbered (with_duty c d xs) m ≡ numbered xs m
unfolding with_duty
duty_other c m d xs h = changed_other _ c m xs h

pub layer_other : (c k m : ℕ) (xs : List ContextState) → m ≢ c →
    numbered (with_layer c k xs) m ≡ numbered xs m
unfolding with_layer
layer_other c k m xs h = changed_other _ c m xs h

pub used_other : (c u m : ℕ) (xs : List ContextState) → m ≢ c →
    numbered (with_used c u xs) m ≡ numbered xs m
unfolding with_used
used_other c u m xs h = changed_other _ c m xs h

turned : (a b : ℕ) → (a == b) ≡ false → b ≢ a
turned a b h e = differ a b h (sym e)

abbrev requests_at : State → ℕ → Option RequestState
requests_at s i = numbered s.requests i

abbrev contexts_at : State → ℕ → Option ContextState
contexts_at s c = numbered s.contexts c

pub next_request : (sizes : Extents) (s : State) (i f t : ℕ) →
    legal.may_start sizes s i f t ≡ true → i ≡ length s.requests + 1
unfolding legal.may_start
next_request sizes s i f t h = same i (length s.requests + 1)
    (and_second _ _ (and_first _ _ (and_first _ _ (and_first _ _ h))))

pub next_context : (sizes : Extents) (s : State) (c : ℕ) (k : Option ℕ) (i n : ℕ) →
    legal.may_deploy sizes s c k i n ≡ true → c ≡ length s.contexts + 1
unfolding legal.may_deploy
next_context sizes s c k i n h = same c (length s.contexts + 1)
    (and_second _ _ (and_first _ _ (and_first _ _ (and_first _ _ h))))

-- an event that doesn't name a request leaves it as it is
pub request_stays : (sizes : Extents) (s : State) (e : Event) (t : State) (i : ℕ) →
    after sizes s e ≡ Some t → names_request i e ≡ false → requests_at t i ≡ requests_at s i
unfolding legal.after_start legal.after_take legal.after_deploy legal.after_refill
    legal.after_built legal.after_keep legal.after_dup legal.after_drop legal.after_evict
    legal.after_park legal.after_end legal.after_back legal.after_standing legal.after_answer
request_stays sizes s (Start j f z) t i h n = let r = stood _ _ t h in
    ap (λ x. requests_at x i) (sym r.1) ∙ pushed_other s.requests i _
    (λ e. turned j i n (e ∙ sym (next_request sizes s j f z r.0)))
request_stays sizes s (Take c j) t i h n = let r = stood _ _ t h in
    ap (λ x. requests_at x i) (sym r.1) ∙ service_other j i _ _ _ s.requests (turned j i n)
request_stays sizes s (Deploy c k j m) t i h n = let r = stood _ _ t h in
    ap (λ x. requests_at x i) (sym r.1) ∙ service_other j i _ _ _ s.requests (turned j i n)
request_stays sizes s (Refill c m q) t i h n = let r = stood _ _ t h in
    ap (λ x. requests_at x i) (sym r.1)
request_stays sizes s (Built c k d) t i h n = let r = stood _ _ t h in
    ap (λ x. requests_at x i) (sym r.1)
request_stays sizes s (Keep k) t i h n = let r = stood _ _ t h in
    ap (λ x. requests_at x i) (sym r.1)
request_stays sizes s (Dup k) t i h n = let r = stood _ _ t h in
    ap (λ x. requests_at x i) (sym r.1)
request_stays sizes s (Drop k) t i h n = let r = stood _ _ t h in
    ap (λ x. requests_at x i) (sym r.1)
request_stays sizes s (Evict c) t i h n = let r = stood _ _ t h in
    ap (λ x. requests_at x i) (sym r.1)
request_stays sizes s (Park c) t i h n = let r = stood _ _ t h in
    ap (λ x. requests_at x i) (sym r.1)
request_stays sizes s (End c) t i h n = let r = stood _ _ t h in
    ap (λ x. requests_at x i) (sym r.1)
request_stays sizes s (Back m) t i h n = let r = stood _ _ t h in
    ap (λ x. requests_at x i) (sym r.1)
request_stays sizes s (Refuse j) t i h n = let r = stood _ _ t h in
    ap (λ x. requests_at x i) (sym r.1) ∙ standing_other j i _ _ s.requests (turned j i n)
request_stays sizes s (Want j) t i h n = let r = stood _ _ t h in
    ap (λ x. requests_at x i) (sym r.1) ∙ standing_other j i _ _ s.requests (turned j i n)
request_stays sizes s (Answer j c u) t i h n = let r = stood _ _ t h in
    ap (λ x. requests_at x i) (sym r.1) ∙ standing_other j i _ _ s.requests (turned j i n)

-- an event that doesn't name a context leaves it as it is
pub context_stays : (sizes : Extents) (s : State) (e : Event) (t : State) (c : ℕ) →
    after sizes s e ≡ Some t → names_context c e ≡ false → contexts_at t c ≡ contexts_at s c
unfolding legal.after_start legal.after_take legal.after_deploy legal.after_refill
    legal.after_built legal.after_keep legal.after_dup legal.after_drop legal.after_evict
    legal.after_park legal.after_end legal.after_back legal.after_standing legal.after_answer
context_stays sizes s (Start j f z) t c h n = let r = stood _ _ t h in
    ap (λ x. contexts_at x c) (sym r.1)
context_stays sizes s (Take d j) t c h n = let r = stood _ _ t h in
    ap (λ x. contexts_at x c) (sym r.1) ∙ duty_other d c _ s.contexts (turned d c n)
context_stays sizes s (Deploy d k j m) t c h n = let r = stood _ _ t h in
    ap (λ x. contexts_at x c) (sym r.1) ∙ pushed_other s.contexts c _
    (λ e. turned d c n (e ∙ sym (next_context sizes s d k j m r.0)))
context_stays sizes s (Refill d m q) t c h n = let r = stood _ _ t h in
    ap (λ x. contexts_at x c) (sym r.1)
context_stays sizes s (Built d k w) t c h n = let r = stood _ _ t h in
    ap (λ x. contexts_at x c) (sym r.1) ∙ layer_other d k c s.contexts (turned d c n)
context_stays sizes s (Keep k) t c h n = let r = stood _ _ t h in
    ap (λ x. contexts_at x c) (sym r.1)
context_stays sizes s (Dup k) t c h n = let r = stood _ _ t h in
    ap (λ x. contexts_at x c) (sym r.1)
context_stays sizes s (Drop k) t c h n = let r = stood _ _ t h in
    ap (λ x. contexts_at x c) (sym r.1)
context_stays sizes s (Evict d) t c h n = let r = stood _ _ t h in
    ap (λ x. contexts_at x c) (sym r.1) ∙ duty_other d c _ s.contexts (turned d c n)
context_stays sizes s (Park d) t c h n = let r = stood _ _ t h in
    ap (λ x. contexts_at x c) (sym r.1) ∙ duty_other d c _ s.contexts (turned d c n)
context_stays sizes s (End d) t c h n = let r = stood _ _ t h in
    ap (λ x. contexts_at x c) (sym r.1) ∙ duty_other d c _ s.contexts (turned d c n)
context_stays sizes s (Back m) t c h n = let r = stood _ _ t h in
    ap (λ x. contexts_at x c) (sym r.1)
context_stays sizes s (Refuse j) t c h n = let r = stood _ _ t h in
    ap (λ x. contexts_at x c) (sym r.1)
context_stays sizes s (Want j) t c h n = let r = stood _ _ t h in
    ap (λ x. contexts_at x c) (sym r.1)
context_stays sizes s (Answer j d u) t c h n = let r = stood _ _ t h in
    ap (λ x. contexts_at x c) (sym r.1) ∙ used_other d (u + 1) c s.contexts (turned d c n)

-- # Closed requests

-- an open request
pub record IsOpenAt (rs : List RequestState) (i : ℕ) : Type 0 where
  pub one : RequestState
  pub entry : numbered rs i ≡ Some one
  pub stands : is_open_standing one.standing ≡ true

open_at : (rs : List RequestState) (i : ℕ) (o : Option RequestState) → numbered rs i ≡ o →
    legal.is_open_one o ≡ true → IsOpenAt rs i
open_at rs i None e h = absurd (cc)
open_at rs i (Some r) e h = record { one = r; entry = e; stands = h }

pub open_is : (s : State) (i : ℕ) → legal.is_open s i ≡ true → IsOpenAt s.requests i
unfolding legal.is_open
open_is s i h = open_at s.requests i (numbered s.requests i) refl h

waiting_at : (rs : List RequestState) (i : ℕ) (o : Option RequestState) → numbered rs i ≡ o →
    legal.is_waiting_one o ≡ true → IsOpenAt rs i
waiting_at rs i None e h = absurd (cc)
waiting_at rs i (Some r) e h = record { one = r; entry = e; stands = and_first _ _ h }

pub waiting_is : (s : State) (i : ℕ) → legal.is_waiting s i ≡ true → IsOpenAt s.requests i
unfolding legal.is_waiting
waiting_is s i h = waiting_at s.requests i (numbered s.requests i) refl h

-- a closed request is no open one
pub not_open : (rs : List RequestState) (i j : ℕ) (r : RequestState) → IsOpenAt rs j →
    numbered rs i ≡ Some r → is_open_standing r.standing ≡ false → j ≢ i
not_open rs i j r o h k e =
    let q : o.one ≡ r = same_Some o.one r (sym o.entry
    ∙ (ap (λ n. numbered rs n) e ∙ h)) in
    let f : true ≡ false =
    sym o.stands ∙ (ap (λ (x : RequestState). is_open_standing x.standing) q ∙ k) in cc

not_same : (a b : ℕ) → a ≢ b → (v : Bool) → (a == b) ≡ v → v ≡ false
not_same a b h true e = absurd (h (same a b e))
not_same a b h false e = refl

pub apart : (a b : ℕ) → a ≢ b → (a == b) ≡ false
apart a b h = not_same a b h (a == b) refl

take_waits : (s : State) (c i : ℕ) → legal.may_take s c i ≡ true → legal.is_waiting s i ≡ true
unfolding legal.may_take
take_waits s c i h = and_second _ _ (and_first _ _ h)

deploy_waits : (sizes : Extents) (s : State) (c : ℕ) (k : Option ℕ) (i n : ℕ) →
    legal.may_deploy sizes s c k i n ≡ true → legal.is_waiting s i ≡ true
unfolding legal.may_deploy
deploy_waits sizes s c k i n h = and_second _ _
    (and_first _ _ (and_first _ _ (and_first _ _ (and_first _ _ (and_first _ _ h)))))

refuse_open : (s : State) (i : ℕ) → legal.may_refuse s i ≡ true → legal.is_open s i ≡ true
unfolding legal.may_refuse
refuse_open s i h =
    and_second _ _ (and_first _ _ (and_first _ _ (and_first _ _ h)))

want_open : (s : State) (i : ℕ) → legal.may_want s i ≡ true → legal.is_open s i ≡ true
unfolding legal.may_want
want_open s i h = and_second _ _ h

answer_open : (s : State) (i c u : ℕ) → legal.may_answer s i c u ≡ true →
    legal.is_open s i ≡ true
unfolding legal.may_answer
answer_open s i c u h = and_second _ _ (and_first _ _ (and_first _ _ h))

started_before : (rs : List RequestState) (i j : ℕ) (r : RequestState) → j ≡ length rs + 1 →
    numbered rs i ≡ Some r → j ≢ i
started_before rs i j r n h e = none-some r (sym (next_none rs)
    ∙ (ap (λ m. numbered rs m) (sym n ∙ e) ∙ h))

-- no event names a closed request
pub closed_unnamed : (sizes : Extents) (s : State) (e : Event) (t : State) (i : ℕ)
    (r : RequestState) → after sizes s e ≡ Some t → numbered s.requests i ≡ Some r →
    is_open_standing r.standing ≡ false → names_request i e ≡ false
closed_unnamed sizes s (Start j f z) t i r h k d = apart j i (started_before s.requests i j r
    (next_request sizes s j f z (stood _ _ t h).0) k)
closed_unnamed sizes s (Take c j) t i r h k d = apart j i (not_open s.requests i j r
    (waiting_is s j (take_waits s c j (stood _ _ t h).0)) k d)
closed_unnamed sizes s (Deploy c l j m) t i r h k d = apart j i (not_open s.requests i j r
    (waiting_is s j (deploy_waits sizes s c l j m (stood _ _ t h).0)) k d)
closed_unnamed sizes s (Refill c m q) t i r h k d = refl
closed_unnamed sizes s (Built c l w) t i r h k d = refl
closed_unnamed sizes s (Keep l) t i r h k d = refl
closed_unnamed sizes s (Dup l) t i r h k d = refl
closed_unnamed sizes s (Drop l) t i r h k d = refl
closed_unnamed sizes s (Evict c) t i r h k d = refl
closed_unnamed sizes s (Park c) t i r h k d = refl
closed_unnamed sizes s (End c) t i r h k d = refl
closed_unnamed sizes s (Back m) t i r h k d = refl
closed_unnamed sizes s (Refuse j) t i r h k d = apart j i (not_open s.requests i j r
    (open_is s j (refuse_open s j (stood _ _ t h).0)) k d)
closed_unnamed sizes s (Want j) t i r h k d = apart j i (not_open s.requests i j r
    (open_is s j (want_open s j (stood _ _ t h).0)) k d)
closed_unnamed sizes s (Answer j c u) t i r h k d = apart j i (not_open s.requests i j r
    (open_is s j (answer_open s j c u (stood _ _ t h).0)) k d)

-- a closed request stays as it is
pub closed_stays : (sizes : Extents) (s : State) (e : Event) (t : State) (i : ℕ)
    (r : RequestState) → after sizes s e ≡ Some t → numbered s.requests i ≡ Some r →
    is_open_standing r.standing ≡ false → numbered t.requests i ≡ Some r
closed_stays sizes s e t i r h k d =
    request_stays sizes s e t i h (closed_unnamed sizes s e t i r h k d) ∙ k

-- # Events one after another

or_no : (a b : Bool) → (a || b) ≡ false → (a ≡ false) × (b ≡ false)
or_no true b h = absurd (cc)
or_no false b h = (refl, h)

-- what each event that passes a test keeps, events that pass it keep
pub kept_by_all : {V : Type 0} (look : State → V) (names : Event → Bool) (sizes : Extents)
    (s : State) (es : List Event) (t : State) →
    ((x : State) (e : Event) (y : State) → after sizes x e ≡ Some y → names e ≡ false →
    look y ≡ look x) →
    after_all sizes s es ≡ Some t → list_any names es ≡ false → look t ≡ look s
kept_by_all look names sizes s [] t f h n =
    ap look (sym (same_Some s t (sym (none_first sizes s) ∙ h)))
kept_by_all look names sizes s (e ∷ es) t f h n =
    let p = or_no (names e) (list_any names es) n in
    kept_on look names sizes s e es (after sizes s e) t f refl p.0
    (λ m k. kept_by_all look names sizes m es t f k p.1) (sym (all_more sizes s e es) ∙ h)
  where
    kept_on : {V : Type 0} (look : State → V) (names : Event → Bool) (sizes : Extents)
        (s : State) (e : Event) (es : List Event) (next : Option State) (t : State) →
        ((x : State) (e : Event) (y : State) → after sizes x e ≡ Some y → names e ≡ false →
        look y ≡ look x) → after sizes s e ≡ next → names e ≡ false →
        ((m : State) → after_all sizes m es ≡ Some t → look t ≡ look m) →
        go_on sizes es next ≡ Some t → look t ≡ look s
    kept_on look names sizes s e es None t f is n rest h = absurd (none-some t h)
    kept_on look names sizes s e es (Some m) t f is n rest h = rest m h ∙ f s e m is n

closed_on : (sizes : Extents) (s : State) (e : Event) (es : List Event) (next : Option State)
    (t : State) (i : ℕ) (r : RequestState) → after sizes s e ≡ next →
    numbered s.requests i ≡ Some r → is_open_standing r.standing ≡ false →
    ((m : State) → after_all sizes m es ≡ Some t → numbered m.requests i ≡ Some r →
    numbered t.requests i ≡ Some r) → go_on sizes es next ≡ Some t →
    numbered t.requests i ≡ Some r
closed_on sizes s e es None t i r is k d rest h = absurd (none-some t h)
closed_on sizes s e es (Some m) t i r is k d rest h =
    rest m h (closed_stays sizes s e m i r is k d)

pub closed_always : (sizes : Extents) (s : State) (es : List Event) (t : State) (i : ℕ)
    (r : RequestState) → after_all sizes s es ≡ Some t → numbered s.requests i ≡ Some r →
    is_open_standing r.standing ≡ false → numbered t.requests i ≡ Some r
closed_always sizes s [] t i r h k d =
    ap (λ x. requests_at x i) (sym (same_Some s t (sym (none_first sizes s) ∙ h))) ∙ k
closed_always sizes s (e ∷ es) t i r h k d =
    closed_on sizes s e es (after sizes s e) t i r refl k d
    (λ m l n. closed_always sizes m es t i r l n d) (sym (all_more sizes s e es) ∙ h)
