-- A log and one event more.
use Rattle.std.proofs.Common.{◌≡◌, ℕ, ◌+◌, ◌≤◌, ◌<◌, ◌^◌, subst, true, List, [], ◌∷◌, ◌++◌, map}
use Rattle.std.proofs.Common.{length, Option, None, Some, IsSome, refl, sym, ◌∙◌, ap, arith}
use Rattle.std.proofs.Common.{if◌then◌else◌, nat_le}
use Rattle.std.proofs.lemmas.Bool.Decides.{nat_tests}
use Rattle.std.proofs.lemmas.List.{length-map, length-append, map-append}
use Rattle.journal_model.specs.Extents.{Extents}
use Rattle.journal_model.specs.State.{State}
use Rattle.journal_model.specs.Legal as legal
use Rattle.journal_model.specs.Legal.{after, after_all, at_first}
use Rattle.journal_model.specs.declared.event.Event.{Event}
use Rattle.journal_model.specs.declared.event.Event.TheVariants.{Start}
use Rattle.journal_model.proofs.Folds.{none_first, go_on, all_more}
use Rattle.journal_model.proofs.Frames.{and_first, and_second}
use Rattle.journal_model.proofs.Recents.{same}
use Rattle.journal_laws.proofs.Folding.{joined_one}
use Rattle.journal_laws.proofs.Serving.{few}
use Rattle.book_log.specs.Logged.{Logged, state_or, replayed, IsLogged}
use Rattle.book_log.specs.Logged.{starts_none, draws}
use Rattle.book_log.specs.Logged.{key_of_started, key_of_request}
use Rattle.book_log.specs.declared.started.Started.{Started}
use Rattle.book_log.proofs.Keys.{keys_stay, drawn_more}

-- the state to which events lead
pub replayed_is : (sizes : Extents) (es : List Event) (s : State) →
    after_all sizes (at_first sizes) es ≡ Some s → replayed sizes es ≡ s
unfolding replayed
replayed_is sizes es s h = ap (state_or (at_first sizes)) h

-- what an event leads to, from a log
pub one_more : (sizes : Extents) (es : List Event) (s t : State) (e : Event) →
    after_all sizes (at_first sizes) es ≡ Some s → after sizes s e ≡ Some t →
    after_all sizes (at_first sizes) (es ++ e ∷ []) ≡ Some t
one_more sizes es s t e h k = joined_one sizes (at_first sizes) s es e h ∙ k

-- one event more that starts nothing
pub appended : (sizes : Extents) (es : List Event) (s t : State) (e : Event)
    (started : List Started) → IsLogged sizes es s started → after sizes s e ≡ Some t →
    starts_none e ≡ true → IsLogged sizes (es ++ e ∷ []) t started
appended sizes es s t e started h k n = record {
  reached = one_more sizes es s t e h.reached k;
  keys = h.keys ∙ sym (keys_stay sizes s e t k n);
  few = h.few;
  most = h.most;
}

-- as many requests as the journal has
pub counted : (sizes : Extents) (es : List Event) (s : State) (started : List Started) →
    IsLogged sizes es s started → length started ≡ length s.requests
counted sizes es s started h = sym (length-map started key_of_started)
    ∙ (ap length h.keys ∙ length-map s.requests key_of_request)

-- no more contexts than requests
pub contexts_few : (sizes : Extents) (es : List Event) (s : State) (started : List Started) →
    IsLogged sizes es s started → length s.contexts ≤ length started
contexts_few sizes es s started h =
    let a = few sizes es s h.reached in let b = counted sizes es s started h in omega (arith, a, b)

-- what is there
pub found : {A : Type 0} (o : Option A) → IsSome o → (x : A) × (o ≡ Some x)
found None h = absurd (cc)
found (Some x) h = (x, refl)

-- What comes of one event more that starts nothing: the log, the state, and how many contexts were
-- drawn, which is no more than there may be requests.
pub record GoesOn (sizes : Extents) (es : List Event) (s : State) (e : Event)
    (started : List Started) : Type 0 where
  pub logged : IsLogged sizes (es ++ e ∷ []) (replayed sizes (es ++ e ∷ [])) started
  pub state : after sizes s e ≡ Some (replayed sizes (es ++ e ∷ []))
  pub drawn : length (replayed sizes (es ++ e ∷ [])).contexts
      ≡ length s.contexts + (if draws e then 1 else 0)
  pub few : length s.contexts + (if draws e then 1 else 0) ≤ sizes.requests

goes_on_at : (sizes : Extents) (es : List Event) (s t : State) (e : Event)
    (started : List Started) → IsLogged sizes es s started → after sizes s e ≡ Some t →
    starts_none e ≡ true → replayed sizes (es ++ e ∷ []) ≡ t → GoesOn sizes es s e started
goes_on_at sizes es s t e started h k n r =
    let l = appended sizes es s t e started h k n in
    let d = drawn_more sizes s e t k in
    let f = contexts_few sizes (es ++ e ∷ []) t started l in
    let w = h.few in
    record {
      logged = rw r l;
      state = rw r k;
      drawn = rw r d;
      few = omega (arith, d, f, w);
    }

pub goes_on : (sizes : Extents) (es : List Event) (s : State) (e : Event)
    (started : List Started) → IsLogged sizes es s started → IsSome (after sizes s e) →
    starts_none e ≡ true → GoesOn sizes es s e started
goes_on sizes es s e started h k n = let f = found (after sizes s e) k in
    goes_on_at sizes es s f.0 e started h f.1 n
    (replayed_is sizes (es ++ e ∷ []) f.0 (one_more sizes es s f.0 e h.reached f.1))

-- no event leads to the first state
pub first_replayed : (sizes : Extents) → replayed sizes [] ≡ at_first sizes
first_replayed sizes = replayed_is sizes [] (at_first sizes) (none_first sizes (at_first sizes))

pub first_logged : (sizes : Extents) → sizes.requests < 2 ^ 32 →
    IsLogged sizes [] (replayed sizes []) []
first_logged sizes most = rw (first_replayed sizes) (record {
  reached = none_first sizes (at_first sizes);
  keys = refl;
  few = omega arith;
  most = most;
})

-- a start that may stand: the state after it, and what is kept then
pub record Starts (sizes : Extents) (es : List Event) (s : State) (started : List Started)
    (one : Started) : Type 0 where
  pub state : replayed sizes (es ++ Start (length started + 1) one.function one.given.clock ∷ [])
      ≡ legal.after_start s one.function one.given.clock
  pub logged : IsLogged sizes
      (es ++ Start (length started + 1) one.function one.given.clock ∷ [])
      (legal.after_start s one.function one.given.clock) (started ++ one ∷ [])
  pub drawn : length (legal.after_start s one.function one.given.clock).contexts
      ≡ length s.contexts
  pub few : length started + 1 ≤ sizes.requests

within_requests : (sizes : Extents) (s : State) (i f t : ℕ) →
    legal.may_start sizes s i f t ≡ true → i ≤ sizes.requests
unfolding legal.may_start
within_requests sizes s i f t h =
    let w : nat_le i sizes.requests ≡ true
    = and_second _ _ (and_first _ _ (and_first _ _ h)) in grind (arith, nat_tests)

pub after_starts : (sizes : Extents) (s : State) (i f t : ℕ) →
    legal.may_start sizes s i f t ≡ true →
    after sizes s (Start i f t) ≡ Some (legal.after_start s f t)
after_starts sizes s i f t h = rw h refl

start_keys : (s : State) (started : List Started) (one : Started) →
    map key_of_started started ≡ map key_of_request s.requests →
    map key_of_started (started ++ one ∷ [])
    ≡ map key_of_request (legal.after_start s one.function one.given.clock).requests
unfolding legal.after_start
start_keys s started one h = map-append key_of_started started (one ∷ [])
    ∙ (ap (λ ks. ks ++ key_of_started one ∷ []) h
    ∙ sym (map-append key_of_request s.requests _))

drawn_still : (s : State) (f t : ℕ) →
    length (legal.after_start s f t).contexts ≡ length s.contexts
unfolding legal.after_start
drawn_still s f t = refl

pub starts : (sizes : Extents) (es : List Event) (s : State) (started : List Started)
    (one : Started) → IsLogged sizes es s started →
    legal.may_start sizes s (length started + 1) one.function one.given.clock ≡ true →
    Starts sizes es s started one
starts sizes es s started one h may =
    let next = legal.after_start s one.function one.given.clock in
    let i = length started + 1 in
    let reached = one_more sizes es s next (Start i one.function one.given.clock) h.reached
    (after_starts sizes s i one.function one.given.clock may) in
    let w = within_requests sizes s i one.function one.given.clock may in
    record {
      state = replayed_is sizes (es ++ Start i one.function one.given.clock ∷ []) next reached;
      logged = record {
        reached = reached;
        keys = start_keys s started one h.keys;
        few = let l = length-append started (one ∷ []) in omega (arith, l, w);
        most = h.most;
      };
      drawn = drawn_still s one.function one.given.clock;
      few = w;
    }

-- ---- of what a log was and is

pub going : (was now : Logged) (e : Event) → was ≡ now →
    IsLogged was.sizes was.events was.state was.started →
    IsSome (after now.sizes now.state e) → starts_none e ≡ true →
    GoesOn was.sizes was.events was.state e was.started
going was now e same h k n = goes_on was.sizes was.events was.state e was.started h
    (subst (λ (v : Logged). IsSome (after v.sizes v.state e)) (sym same) k) n

pub starting : (was now : Logged) (one : Started) → was ≡ record now { room = was.room } →
    IsLogged was.sizes was.events was.state was.started →
    legal.may_start now.sizes now.state (length now.started + 1) one.function one.given.clock
    ≡ true → Starts was.sizes was.events was.state was.started one
starting was now one same h may = starts was.sizes was.events was.state was.started one h
    (subst (λ (v : Logged). legal.may_start v.sizes v.state (length v.started + 1) one.function
    one.given.clock ≡ true) (sym same) may)

-- the log with a request more, and other room
abbrev pub with_request : Logged → Started → (room : ℕ) → Logged
with_request v one room = record {
  sizes = v.sizes;
  events = v.events ++ Start (length v.started + 1) one.function one.given.clock ∷ [];
  state = legal.after_start v.state one.function one.given.clock;
  started = v.started ++ one ∷ [];
  room = room;
}

-- a log made so of what it was is the one with the request more
pub requested : (was now : Logged) (one : Started) (room : ℕ) (es : List Event) (x : State)
    (started : List Started) → was ≡ record now { room = was.room } →
    es ≡ was.events ++ Start (length was.started + 1) one.function one.given.clock ∷ [] →
    x ≡ legal.after_start was.state one.function one.given.clock →
    started ≡ was.started ++ one ∷ [] →
    (record {
      sizes = was.sizes;
      events = es;
      state = x;
      started = started;
      room = room;
    }) ≡ with_request now one room
requested was now one room es x started same e s t =
    rw (e, s, t) (ap (λ (v : Logged). with_request v one room) same)

-- ---- two events

some_now : (sizes : Extents) (es : List Event) (o : Option State) →
    IsSome (go_on sizes es o) → IsSome o
some_now sizes es None h = absurd (cc)
some_now sizes es (Some t) h = refl

-- of two events the first may stand
pub two_first : (sizes : Extents) (s : State) (e f : Event) →
    IsSome (after_all sizes s (e ∷ f ∷ [])) → IsSome (after sizes s e)
two_first sizes s e f h = some_now sizes (f ∷ []) (after sizes s e)
    (subst (λ o. IsSome o) (all_more sizes s e (f ∷ [])) h)

pub two_after : (sizes : Extents) (s t : State) (e f : Event) → after sizes s e ≡ Some t →
    after_all sizes s (e ∷ f ∷ []) ≡ after sizes t f
two_after sizes s t e f h = all_more sizes s e (f ∷ []) ∙ (ap (go_on sizes (f ∷ [])) h
    ∙ joined_one sizes t t [] f (none_first sizes t))

-- and then the second
pub two_second : (sizes : Extents) (s t : State) (e f : Event) → after sizes s e ≡ Some t →
    IsSome (after_all sizes s (e ∷ f ∷ [])) → IsSome (after sizes t f)
two_second sizes s t e f h k = subst (λ o. IsSome o) (two_after sizes s t e f h) k

-- which leads where both do
pub two_state : (sizes : Extents) (s t u : State) (e f : Event) → after sizes s e ≡ Some t →
    after sizes t f ≡ Some u → after_all sizes s (e ∷ f ∷ []) ≡ Some u
two_state sizes s t u e f h k = two_after sizes s t e f h ∙ k
