-- What the events of a step owe when they are over, and whom they name.
use Rattle.std.proofs.Common.{◌≡◌, ◌≢◌, ℕ, ◌+◌, ◌==◌, ◌||◌, Bool, true, false, List, [], ◌∷◌, ◌++◌}
use Rattle.std.proofs.Common.{Option, Some, length, refl, sym, ◌∙◌, ap}
use Rattle.std.proofs.lemmas.Option.{none-some, same_Some}
use Rattle.std.specs.List.{list_any}
use Rattle.journal_model.specs.Extents.{Extents}
use Rattle.journal_model.specs.State.{State, numbered}
use Rattle.journal_model.specs.Names.{names_context}
use Rattle.journal_model.specs.declared.state.Standing.TheVariants.{Wanted}
use Rattle.journal_model.specs.Legal as legal
use Rattle.journal_model.specs.Legal.{after, after_all, at_first, owes_nothing}
use Rattle.journal_model.specs.declared.event.Event.{Event}
use Rattle.journal_model.specs.declared.event.Event.TheVariants.{Start, Take, Deploy}
use Rattle.journal_model.specs.declared.event.Event.TheVariants.{Keep, Dup, Evict, Park, End}
use Rattle.journal_model.specs.declared.event.Event.TheVariants.{Want, Answer}
use Rattle.journal_model.specs.declared.state.ContextState.{ContextState}
use Rattle.journal_model.specs.declared.state.Duty.{Duty}
use Rattle.journal_model.specs.declared.state.Duty.TheVariants.{Idle, Serves}
use Rattle.journal_model.proofs.Apart.{Has}
use Rattle.journal_model.proofs.Folds.{none_first, parted}
use Rattle.journal_model.proofs.Frames.{and_first, and_second, stood}
use Rattle.journal_model.proofs.Recents.{found_has, just, last_has}
use Rattle.journal_model.proofs.Sound.{duty_of, serves_duty, reached_sound}
use Rattle.journal_laws.proofs.Folding.{joined_one}
use Rattle.journal_laws.proofs.Naming.{apart, next_context}
use Rattle.journal_laws.proofs.Numbers.{next_none}
use Rattle.journal_laws.proofs.Ties.{duty_at, deploy_quiet, want_parts}
use Rattle.service_laws.specs.Serving.{IsServing}
use Rattle.service_laws.proofs.Staying.{contexts_stay}

-- # One event, and the last of several

pub one_event : (sizes : Extents) (s : State) (e : Event) (t : State) →
    after_all sizes s (e ∷ []) ≡ Some t → after sizes s e ≡ Some t
one_event sizes s e t h = sym (joined_one sizes s s [] e (none_first sizes s)) ∙ h

pub as_one : (sizes : Extents) (s : State) (e : Event) (t : State) →
    after sizes s e ≡ Some t → after_all sizes s (e ∷ []) ≡ Some t
as_one sizes s e t h = joined_one sizes s s [] e (none_first sizes s) ∙ h

-- the last of events leads to where they lead
pub record EndsBy (sizes : Extents) (s : State) (a : List Event) (e : Event) (t : State)
    : Type 0 where
  pub before : State
  pub first : after_all sizes s a ≡ Some before
  pub last : after sizes before e ≡ Some t

pub ends_by : (sizes : Extents) (s : State) (a : List Event) (e : Event) (t : State) →
    after_all sizes s (a ++ e ∷ []) ≡ Some t → EndsBy sizes s a e t
ends_by sizes s a e t h = let p = parted sizes s a (e ∷ []) t h in record {
  before = p.between;
  first = p.first;
  last = one_event sizes p.between e t p.second;
}

-- # What is owed after an event

abbrev Quiet : State → Type 0
Quiet s = owes_nothing s.owed ≡ true

quiet_to : (s t : State) → s ≡ t → Quiet s → Quiet t
quiet_to s t e h = ap (λ (x : State). owes_nothing x.owed) (sym e) ∙ h

started_quiet : (sizes : Extents) (s : State) (i f k : ℕ) →
    legal.may_start sizes s i f k ≡ true → Quiet (legal.after_start s f k)
unfolding legal.may_start legal.after_start
started_quiet sizes s i f k h = and_first _ _ (and_first _ _ (and_first _ _ (and_first _ _ h)))

pub start_quiet : (sizes : Extents) (s : State) (i f k : ℕ) (t : State) →
    after sizes s (Start i f k) ≡ Some t → Quiet t
start_quiet sizes s i f k t h = let r = stood _ _ t h in
    quiet_to (legal.after_start s f k) t r.1 (started_quiet sizes s i f k r.0)

taken_quiet : (s : State) (c i : ℕ) → legal.may_take s c i ≡ true → Quiet (legal.after_take s c i)
unfolding legal.may_take legal.after_take
taken_quiet s c i h = and_first _ _ (and_first _ _ h)

pub take_quiet : (sizes : Extents) (s : State) (c i : ℕ) (t : State) →
    after sizes s (Take c i) ≡ Some t → Quiet t
take_quiet sizes s c i t h = let r = stood _ _ t h in
    quiet_to (legal.after_take s c i) t r.1 (taken_quiet s c i r.0)

deployed_quiet : (sizes : Extents) (s : State) (c : ℕ) (k : Option ℕ) (i n : ℕ) →
    legal.may_deploy sizes s c k i n ≡ true → Quiet (legal.after_deploy sizes s c k i n)
unfolding legal.after_deploy
deployed_quiet sizes s c k i n h = (deploy_quiet sizes s c k i n h).0

pub deploys_quiet : (sizes : Extents) (s : State) (c : ℕ) (k : Option ℕ) (i n : ℕ) (t : State) →
    after sizes s (Deploy c k i n) ≡ Some t → Quiet t
deploys_quiet sizes s c k i n t h = let r = stood _ _ t h in
    quiet_to (legal.after_deploy sizes s c k i n) t r.1 (deployed_quiet sizes s c k i n r.0)

kept_quiet : (s : State) (k : ℕ) → Quiet (legal.after_keep s k)
unfolding legal.after_keep
kept_quiet s k = refl

pub keep_quiet : (sizes : Extents) (s : State) (k : ℕ) (t : State) →
    after sizes s (Keep k) ≡ Some t → Quiet t
keep_quiet sizes s k t h =
    quiet_to (legal.after_keep s k) t (stood _ _ t h).1 (kept_quiet s k)

twice_quiet : (s : State) → Quiet (legal.after_dup s)
unfolding legal.after_dup
twice_quiet s = refl

pub dup_quiet : (sizes : Extents) (s : State) (k : ℕ) (t : State) →
    after sizes s (Dup k) ≡ Some t → Quiet t
dup_quiet sizes s k t h = quiet_to (legal.after_dup s) t (stood _ _ t h).1 (twice_quiet s)

parked_quiet : (s : State) (c : ℕ) → Quiet (legal.after_park s c)
unfolding legal.after_park
parked_quiet s c = refl

pub park_quiet : (sizes : Extents) (s : State) (c : ℕ) (t : State) →
    after sizes s (Park c) ≡ Some t → Quiet t
park_quiet sizes s c t h =
    quiet_to (legal.after_park s c) t (stood _ _ t h).1 (parked_quiet s c)

ended_quiet : (s : State) (c : ℕ) → Quiet (legal.after_end s c)
unfolding legal.after_end
ended_quiet s c = refl

pub end_quiet : (sizes : Extents) (s : State) (c : ℕ) (t : State) →
    after sizes s (End c) ≡ Some t → Quiet t
end_quiet sizes s c t h = quiet_to (legal.after_end s c) t (stood _ _ t h).1 (ended_quiet s c)

wanted_quiet : (s : State) (i : ℕ) → legal.may_want s i ≡ true →
    Quiet (legal.after_standing s i Wanted)
unfolding legal.after_standing
wanted_quiet s i h = (want_parts s i h).0

pub want_quiet : (sizes : Extents) (s : State) (i : ℕ) (t : State) →
    after sizes s (Want i) ≡ Some t → Quiet t
want_quiet sizes s i t h = let r = stood _ _ t h in quiet_to _ t r.1 (wanted_quiet s i r.0)

-- # Tests of several events

pub or_none : (a b : Bool) → a ≡ false → b ≡ false → (a || b) ≡ false
or_none true b h k = absurd (cc)
or_none false b h k = k

pub only : (b : Bool) → b ≡ false → (b || false) ≡ false
only b h = or_none b false h refl

-- an equality test of two numbers that differ
pub differs : (i j : ℕ) → j ≢ i → (i == j) ≡ false
differs i j h = apart i j (λ e. h (sym e))

-- # Contexts and their duties

-- a context that stands has its duty
pub duty_is : (s : State) (c : ℕ) (x : ContextState) (d : Duty) →
    numbered s.contexts c ≡ Some x → x.duty ≡ d → duty_of s.contexts c ≡ Some d
duty_is s c x d h k = ap duty_at h ∙ ap (λ e. Some e) k

pub serving_duty : (s : State) (i c : ℕ) (x : ContextState) → IsServing s i c x →
    duty_of s.contexts c ≡ Some (Serves i)
serving_duty s i c x w = duty_is s c x (Serves i) w.work.context w.work.duty

-- a context keeps the duty that no event names
pub duty_stays : (sizes : Extents) (s : State) (es : List Event) (t : State) (c : ℕ) →
    after_all sizes s es ≡ Some t → list_any (names_context c) es ≡ false →
    duty_of t.contexts c ≡ duty_of s.contexts c
duty_stays sizes s es t c h n = ap duty_at (contexts_stay sizes s es t c h n)

-- contexts with two duties are two
two_duties : (s : State) (c d : ℕ) (a b : Duty) → duty_of s.contexts c ≡ Some a →
    duty_of s.contexts d ≡ Some b → a ≢ b → d ≢ c
two_duties s c d a b h k n e =
    n (same_Some a b (sym h ∙ (ap (λ m. duty_of s.contexts m) (sym e) ∙ k)))

serves_two : (i j : ℕ) → j ≢ i → Serves i ≢ Serves j
serves_two i j n e = n (sym (ap legal.served_by_duty e))

idle_serves : (j : ℕ) → Idle ≢ Serves j
idle_serves j e = cc

-- contexts that serve two requests are two
pub two_services : (s : State) (i j c d : ℕ) → j ≢ i → duty_of s.contexts c ≡ Some (Serves i) →
    duty_of s.contexts d ≡ Some (Serves j) → d ≢ c
two_services s i j c d n h k = two_duties s c d (Serves i) (Serves j) h k (serves_two i j n)

answers : (s : State) (i c u : ℕ) → legal.may_answer s i c u ≡ true →
    legal.serves s c i ≡ true
unfolding legal.may_answer
answers s i c u h = and_second _ _ (and_first _ _ h)

pub answering_duty : (sizes : Extents) (s : State) (i c u : ℕ) (t : State) →
    after sizes s (Answer i c u) ≡ Some t → duty_of s.contexts c ≡ Some (Serves i)
answering_duty sizes s i c u t h = serves_duty s c i (answers s i c u (stood _ _ t h).0)

take_has : (s : State) (c i : ℕ) → legal.may_take s c i ≡ true → Has c s.idle
unfolding legal.may_take legal.first_for
take_has s c i h = found_has _ s.idle c (just _ c (and_second _ _ h))

-- a context that is taken was idle
pub taken_duty : (sizes : Extents) (first : List Event) (s : State) (c i : ℕ) (t : State) →
    after_all sizes (at_first sizes) first ≡ Some s → after sizes s (Take c i) ≡ Some t →
    duty_of s.contexts c ≡ Some Idle
taken_duty sizes first s c i t h k =
    (reached_sound sizes first s h).idle c (take_has s c i (stood _ _ t k).0)

evict_has : (sizes : Extents) (s : State) (e : ℕ) → legal.may_evict sizes s e ≡ true →
    Has e s.idle
unfolding legal.may_evict
evict_has sizes s e h = last_has s.idle e (and_second _ _ h)

-- and so was one that is evicted
pub evicted_duty : (sizes : Extents) (first : List Event) (s : State) (e : ℕ) (t : State) →
    after_all sizes (at_first sizes) first ≡ Some s → after sizes s (Evict e) ≡ Some t →
    duty_of s.contexts e ≡ Some Idle
evicted_duty sizes first s e t h k =
    (reached_sound sizes first s h).idle e (evict_has sizes s e (stood _ _ t k).0)

-- a context that serves is none that idles
pub not_idle : (s : State) (j c d : ℕ) → duty_of s.contexts c ≡ Some Idle →
    duty_of s.contexts d ≡ Some (Serves j) → d ≢ c
not_idle s j c d h k = two_duties s c d Idle (Serves j) h k (idle_serves j)

drawn_before : (s : State) (c d j : ℕ) → c ≡ length s.contexts + 1 →
    duty_of s.contexts d ≡ Some (Serves j) → d ≢ c
drawn_before s c d j n h e = none-some (Serves j)
    (sym (ap duty_at (ap (λ m. numbered s.contexts m) (e ∙ n) ∙ next_none s.contexts)) ∙ h)

-- nor is it one that is deployed
pub not_deployed : (sizes : Extents) (s : State) (c : ℕ) (k : Option ℕ) (i n : ℕ) (t : State)
    (d j : ℕ) → after sizes s (Deploy c k i n) ≡ Some t →
    duty_of s.contexts d ≡ Some (Serves j) → d ≢ c
not_deployed sizes s c k i n t d j h w =
    drawn_before s c d j (next_context sizes s c k i n (stood _ _ t h).0) w

-- nor one that goes for a context that answered
pub not_evicted : (sizes : Extents) (first : List Event) (s : State) (i c u e : ℕ) (m t : State)
    (d j : ℕ) → after_all sizes (at_first sizes) first ≡ Some s →
    after sizes s (Answer i c u) ≡ Some m → after sizes m (Evict e) ≡ Some t → d ≢ c →
    duty_of s.contexts d ≡ Some (Serves j) → d ≢ e
not_evicted sizes first s i c u e m t d j h a v n w =
    let r = joined_one sizes (at_first sizes) s first (Answer i c u) h ∙ a in
    let k = duty_stays sizes s (Answer i c u ∷ []) m d (as_one sizes s (Answer i c u) m a)
    (only _ (differs c d n)) in
    not_idle m j e d (evicted_duty sizes (first ++ Answer i c u ∷ []) m e t r v) (k ∙ w)
