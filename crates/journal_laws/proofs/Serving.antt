-- What holds of requests, contexts and the idle list in every state that is reached.
use Rattle.std.proofs.Common.{◌≡◌, ◌≢◌, ℕ, ◌+◌, ◌<◌, ◌≤◌, ◌==◌, Bool, true, false, cond, suc}
use Rattle.std.proofs.Common.{List, [], ◌∷◌, ◌++◌, length, Option, None, Some, refl, sym, ◌∙◌, ap}
use Rattle.std.proofs.Common.{arith, subst}
use Rattle.std.specs.Prelude.{option_and_then}
use Rattle.std.proofs.lemmas.Option.{none-some, same_Some}
use Rattle.journal_model.specs.Extents.{Extents}
use Rattle.journal_model.specs.State.{State, numbered, contains}
use Rattle.journal_model.proofs.Apart.{Has}
use Rattle.journal_model.specs.Legal as legal
use Rattle.journal_model.specs.Legal.{after, after_all, at_first, is_open_standing}
use Rattle.journal_model.specs.Reads.{answer_from, answers_below, served, earlier, earlier_one}
use Rattle.journal_model.specs.Reads.{earlier_given}
use Rattle.journal_model.specs.declared.event.Event.{Event}
use Rattle.journal_model.specs.declared.event.Event.TheVariants.{Start, Take, Deploy, Refill}
use Rattle.journal_model.specs.declared.event.Event.TheVariants.{Built, Keep, Dup, Drop, Evict}
use Rattle.journal_model.specs.declared.event.Event.TheVariants.{Park, End, Back, Refuse, Want}
use Rattle.journal_model.specs.declared.event.Event.TheVariants.{Answer}
use Rattle.journal_model.specs.declared.answer.How.TheVariants as how
use Rattle.journal_model.specs.declared.state.Standing.TheVariants.{Answered, Refused}
use Rattle.journal_model.specs.declared.state.Standing.TheVariants.{Wanted}
use Rattle.journal_model.specs.declared.state.RequestState.{RequestState}
use Rattle.journal_model.specs.declared.state.ContextState.{ContextState}
use Rattle.journal_model.specs.declared.state.Duty.TheVariants.{Idle, Serves, Over}
use Rattle.journal_model.proofs.Recents.{same, has, absent}
use Rattle.journal_model.proofs.Frames.{and_first, and_second, stood}
use Rattle.journal_model.proofs.Sound.{Sound, duty_of, given_of, serves_duty, reached_sound}
use Rattle.journal_laws.specs.Rests.{used_in, IsRested}
use Rattle.journal_laws.specs.Served.{with_answer}
use Rattle.journal_laws.proofs.Naming.{IsOpenAt, open_is}
use Rattle.journal_laws.proofs.Answering.{IsStill, still_same, still_push, below_same, below_more}
use Rattle.journal_laws.proofs.Ties.{Tied, reached_tied, given_most, waiting_is, service_still}
use Rattle.journal_laws.proofs.Ties.{duty_uses, push_uses, layer_uses, standing_still, answer_is}
use Rattle.journal_laws.proofs.Ties.{new_answer, other_answer, used_here, used_other, self}
use Rattle.journal_laws.proofs.Ties.{deploy_quiet, refuse_parts, want_parts, duty_at, IsAnswer}

pub few : (sizes : Extents) (es : List Event) (s : State) →
    after_all sizes (at_first sizes) es ≡ Some s → length s.contexts ≤ length s.requests
few sizes es s h = let a = (reached_tied sizes es s h).ties.few in
    let b = given_most s.requests in omega (arith, a, b)

serves_at : (i : ℕ) (o : Option ContextState) → duty_at o ≡ Some (Serves i) →
    legal.serves_one i o ≡ true
serves_at i None h = absurd (none-some (Serves i) h)
serves_at i (Some x) h =
    ap (λ d. legal.is_duty i d) (same_Some x.duty (Serves i) h) ∙ self i

-- a context that has the duty serves the request
pub duty_serves : (s : State) (c i : ℕ) → duty_of s.contexts c ≡ Some (Serves i) →
    legal.serves s c i ≡ true
unfolding legal.serves
duty_serves s c i h = serves_at i (numbered s.contexts c) h

given_same : (o : Option RequestState) →
    option_and_then (λ (r : RequestState). r.context) o ≡ legal.given_to_one o
given_same None = refl
given_same (Some r) = refl

pub given_is : (s : State) (i : ℕ) → given_of s.requests i ≡ legal.given_to s i
unfolding legal.given_to
given_is s i = given_same (numbered s.requests i)

open_given : (s : State) (i c : ℕ) → (o : IsOpenAt s.requests i) → legal.given_to s i ≡ Some c →
    o.one.context ≡ Some c
unfolding legal.given_to
open_given s i c o h = sym (ap legal.given_to_one o.entry) ∙ h

pub served_so : (sizes : Extents) (es : List Event) (s : State) (i c : ℕ) →
    after_all sizes (at_first sizes) es ≡ Some s → legal.is_open s i ≡ true →
    legal.given_to s i ≡ Some c → legal.serves s c i ≡ true
served_so sizes es s i c h o g = let z = open_is s i o in
    duty_serves s c i ((reached_tied sizes es s h).ties.open_served i c z.one z.entry z.stands
    (open_given s i c z g)).0

pub given_so : (sizes : Extents) (es : List Event) (s : State) (i c : ℕ) →
    after_all sizes (at_first sizes) es ≡ Some s → legal.serves s c i ≡ true →
    legal.given_to s i ≡ Some c
given_so sizes es s i c h v = sym (given_is s i)
    ∙ (reached_sound sizes es s h).given c i (serves_duty s c i v)

pub earlier_so : (sizes : Extents) (es : List Event) (s : State) (i c : ℕ) →
    after_all sizes (at_first sizes) es ≡ Some s → legal.is_open s i ≡ true →
    legal.given_to s i ≡ Some c → earlier s i ≡ served s c
unfolding earlier served legal.answered_by
earlier_so sizes es s i c h o g =
    let z = open_is s i o in
    let x = open_given s i c z g in
    ap (earlier_one s.requests) z.entry
    ∙ (ap (earlier_given s.requests z.one.used) x
    ∙ ap (λ u. answers_below c u s.requests)
    ((reached_tied sizes es s h).ties.open_served i c z.one z.entry z.stands x).1)

drawn_idle : (o : Option ContextState) → duty_at o ≡ Some Idle →
    (x : ContextState) × (o ≡ Some x) × (x.duty ≡ Idle)
drawn_idle None h = absurd (none-some Idle h)
drawn_idle (Some x) h = (x, refl, same_Some x.duty Idle h)

pub listed_idle : (sizes : Extents) (es : List Event) (s : State) (c : ℕ) →
    after_all sizes (at_first sizes) es ≡ Some s → contains c s.idle ≡ true →
    (x : ContextState) × (numbered s.contexts c ≡ Some x) × (x.duty ≡ Idle)
listed_idle sizes es s c h l = drawn_idle (numbered s.contexts c)
    ((reached_sound sizes es s h).idle c (has c s.idle l))

has_so : (b : Bool) (x : ℕ) (xs : List ℕ) → contains x xs ≡ b → Has x xs → b ≡ true
has_so true x xs e h = refl
has_so false x xs e h = absurd (absent x xs e h)

pub idle_listed : (sizes : Extents) (es : List Event) (s : State) (c : ℕ) (x : ContextState) →
    after_all sizes (at_first sizes) es ≡ Some s → numbered s.contexts c ≡ Some x →
    x.duty ≡ Idle → contains c s.idle ≡ true
idle_listed sizes es s c x h e d = has_so (contains c s.idle) c s.idle refl
    ((reached_tied sizes es s h).ties.listed c (ap duty_at e ∙ ap (λ y. Some y) d))

pub idle_rested : (sizes : Extents) (es : List Event) (s : State) (c : ℕ) →
    after_all sizes (at_first sizes) es ≡ Some s → contains c s.idle ≡ true →
    IsRested sizes.uses s.requests s.contexts c
idle_rested sizes es s c h l = (reached_tied sizes es s h).ties.rested c
    ((reached_sound sizes es s h).idle c (has c s.idle l))

pub each_answer : (sizes : Extents) (es : List Event) (s : State) (c v : ℕ) →
    after_all sizes (at_first sizes) es ≡ Some s → v < legal.answered_by s c →
    (i : ℕ) × (answer_from c v 1 s.requests ≡ Some i)
unfolding legal.answered_by
each_answer sizes es s c v h l = (reached_tied sizes es s h).ties.answers c v l

pub no_answer : (sizes : Extents) (es : List Event) (s : State) (c v : ℕ) →
    after_all sizes (at_first sizes) es ≡ Some s → legal.answered_by s c ≤ v →
    answer_from c v 1 s.requests ≡ None
unfolding legal.answered_by
no_answer sizes es s c v h l = (reached_tied sizes es s h).ties.no_more c v l

-- # What a context served, event by event

abbrev pub served_in : List RequestState → List ContextState → ℕ → List ℕ
served_in rs xs c = answers_below c (used_in xs c) rs

pub served_is : (s : State) (c : ℕ) → served s c ≡ served_in s.requests s.contexts c
unfolding served legal.answered_by
served_is s c = refl

still_served : (c : ℕ) (rs qs : List RequestState) (xs ys : List ContextState) → IsStill rs qs →
    used_in ys c ≡ used_in xs c → served_in qs ys c ≡ served_in rs xs c
still_served c rs qs xs ys k u = ap (λ n. answers_below c n qs) u
    ∙ below_same c (used_in xs c) rs qs (λ v l. k.answer c v)

answer_grows : (p : Option ℕ) (rs : List RequestState) (xs : List ContextState) (i c u : ℕ) →
    IsAnswer rs xs i c u → ((d v : ℕ) → used_in xs d ≤ v → answer_from d v 1 rs ≡ None) →
    served_in (legal.with_standing i Answered p rs) (legal.with_used c (u + 1) xs) c
    ≡ served_in rs xs c ++ i ∷ []
answer_grows p rs xs i c u a n =
    let qs = legal.with_standing i Answered p rs in
    let e : used_in (legal.with_used c (u + 1) xs) c ≡ suc u =
    used_here c (u + 1) (Serves i) xs a.duty ∙ omega arith in
    ap (λ m. answers_below c m qs) e
    ∙ (below_more c u i qs (new_answer p rs xs i c u a n)
    ∙ (ap (λ z. z ++ i ∷ []) (below_same c u rs qs (λ v l. other_answer p rs xs i c u c v a
    (λ g k. (let f : v ≡ u = k in omega arith))))
    ∙ ap (λ m. answers_below c m rs ++ i ∷ []) (sym a.count)))

answer_other : (p : Option ℕ) (rs : List RequestState) (xs : List ContextState)
    (i c u d : ℕ) → IsAnswer rs xs i c u → d ≢ c →
    served_in (legal.with_standing i Answered p rs) (legal.with_used c (u + 1) xs) d
    ≡ served_in rs xs d
answer_other p rs xs i c u d a n =
    ap (λ m. answers_below d m (legal.with_standing i Answered p rs)) (used_other c (u + 1) d xs n)
    ∙ below_same d (used_in xs d) rs _ (λ v l. other_answer p rs xs i c u d v a (λ g k. n g))

answer_either : (b : Bool) (p : Option ℕ) (rs : List RequestState) (xs : List ContextState)
    (i c u d : ℕ) → (c == d) ≡ b → IsAnswer rs xs i c u →
    ((d v : ℕ) → used_in xs d ≤ v → answer_from d v 1 rs ≡ None) →
    served_in (legal.with_standing i Answered p rs) (legal.with_used c (u + 1) xs) d
    ≡ cond b (served_in rs xs d ++ i ∷ []) (served_in rs xs d)
answer_either true p rs xs i c u d e a n = let P : ℕ → Type 0 = λ z.
    served_in (legal.with_standing i Answered p rs) (legal.with_used c (u + 1) xs) z
    ≡ served_in rs xs z ++ i ∷ [] in
    subst P (same c d e) (answer_grows p rs xs i c u a n)
answer_either false p rs xs i c u d e a n = answer_other p rs xs i c u d a
    (λ g. (let f : true ≡ false = sym (self c) ∙ (ap (λ z. c == z) (sym g) ∙ e) in cc))

pub take_waits : (s : State) (c i : ℕ) → legal.may_take s c i ≡ true → legal.is_waiting s i ≡ true
unfolding legal.may_take
take_waits s c i h = and_second _ _ (and_first _ _ h)

abbrev Grows : State → State → Event → ℕ → Type 0
Grows s t e c = served_in t.requests t.contexts c
    ≡ with_answer c e (served_in s.requests s.contexts c)

grows_in : (sizes : Extents) (s : State) (e : Event) (t : State) (c : ℕ) → Sound sizes s →
    Tied sizes s → after sizes s e ≡ Some t → Grows s t e c
unfolding legal.after_start legal.after_take legal.after_deploy legal.after_refill
    legal.after_built legal.after_keep legal.after_dup legal.after_drop legal.after_evict
    legal.after_park legal.after_end legal.after_back legal.after_standing legal.after_answer
grows_in sizes s (Start i f z) t c q k h = let r = stood _ _ t h in
    let P : State → Type 0 = λ x. Grows s x (Start i f z) c in subst P r.1
    (still_served c s.requests _ s.contexts s.contexts (still_push s.requests _ refl) refl)
grows_in sizes s (Take d i) t c q k h = let r = stood _ _ t h in
    let P : State → Type 0 = λ x. Grows s x (Take d i) c in subst P r.1
    (still_served c s.requests _ s.contexts _ (service_still how.Hot d (legal.answered_by s d) i
    s.requests (waiting_is s i (take_waits s d i r.0)).open_at)
    (duty_uses d (Serves i) s.contexts c))
grows_in sizes s (Deploy d l i n) t c q k h = let r = stood _ _ t h in
    let P : State → Type 0 = λ x. Grows s x (Deploy d l i n) c in subst P r.1
    (still_served c s.requests _ s.contexts _ (service_still _ d 0 i s.requests
    (waiting_is s i (deploy_quiet sizes s d l i n r.0).1).open_at)
    (push_uses s.contexts _ refl c))
grows_in sizes s (Refill d m n) t c q k h = let r = stood _ _ t h in
    let P : State → Type 0 = λ x. Grows s x (Refill d m n) c in subst P r.1 refl
grows_in sizes s (Built d l n) t c q k h = let r = stood _ _ t h in
    let P : State → Type 0 = λ x. Grows s x (Built d l n) c in subst P r.1
    (still_served c s.requests s.requests s.contexts _ (still_same s.requests)
    (layer_uses d l s.contexts c))
grows_in sizes s (Keep l) t c q k h = let r = stood _ _ t h in
    let P : State → Type 0 = λ x. Grows s x (Keep l) c in subst P r.1 refl
grows_in sizes s (Dup l) t c q k h = let r = stood _ _ t h in
    let P : State → Type 0 = λ x. Grows s x (Dup l) c in subst P r.1 refl
grows_in sizes s (Drop l) t c q k h = let r = stood _ _ t h in
    let P : State → Type 0 = λ x. Grows s x (Drop l) c in subst P r.1 refl
grows_in sizes s (Evict d) t c q k h = let r = stood _ _ t h in
    let P : State → Type 0 = λ x. Grows s x (Evict d) c in subst P r.1
    (still_served c s.requests s.requests s.contexts _ (still_same s.requests)
    (duty_uses d Over s.contexts c))
grows_in sizes s (Park d) t c q k h = let r = stood _ _ t h in
    let P : State → Type 0 = λ x. Grows s x (Park d) c in subst P r.1
    (still_served c s.requests s.requests s.contexts _ (still_same s.requests)
    (duty_uses d Idle s.contexts c))
grows_in sizes s (End d) t c q k h = let r = stood _ _ t h in
    let P : State → Type 0 = λ x. Grows s x (End d) c in subst P r.1
    (still_served c s.requests s.requests s.contexts _ (still_same s.requests)
    (duty_uses d Over s.contexts c))
grows_in sizes s (Back n) t c q k h = let r = stood _ _ t h in
    let P : State → Type 0 = λ x. Grows s x (Back n) c in subst P r.1 refl
grows_in sizes s (Refuse i) t c q k h = let r = stood _ _ t h in
    let P : State → Type 0 = λ x. Grows s x (Refuse i) c in subst P r.1
    (still_served c s.requests _ s.contexts s.contexts (standing_still Refused _ i s.requests refl
    (open_is s i (refuse_parts s i r.0).1)) refl)
grows_in sizes s (Want i) t c q k h = let r = stood _ _ t h in
    let P : State → Type 0 = λ x. Grows s x (Want i) c in subst P r.1
    (still_served c s.requests _ s.contexts s.contexts (standing_still Wanted _ i s.requests refl
    (open_is s i (want_parts s i r.0).1)) refl)
grows_in sizes s (Answer i d u) t c q k h = let r = stood _ _ t h in
    let P : State → Type 0 = λ x. Grows s x (Answer i d u) c in subst P r.1
    (answer_either (d == c) (legal.place_of s d) s.requests s.contexts i d u c refl
    (answer_is sizes s i d u r.0 q k) k.ties.no_more)

pub grows : (sizes : Extents) (es : List Event) (s t : State) (e : Event) (c : ℕ) →
    after_all sizes (at_first sizes) es ≡ Some s → after sizes s e ≡ Some t →
    served t c ≡ with_answer c e (served s c)
grows sizes es s t e c h k = served_is t c
    ∙ (grows_in sizes s e t c (reached_sound sizes es s h) (reached_tied sizes es s h) k
    ∙ ap (with_answer c e) (sym (served_is s c)))
