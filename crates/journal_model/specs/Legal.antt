-- Which journals are legal: a fold over their events. Each event has a condition `may_..`, under
-- which it may stand, and an effect `after_..`, the state after it.
use Rattle.std.specs.Prelude.{◌≡◌, ℕ, ◌+◌, ◌-◌, Bool, true, false, ◌&&◌, ◌||◌, ◌==◌}
use Rattle.std.specs.Prelude.{if◌then◌else◌, List, [], ◌∷◌, ◌++◌, length, Option, None, Some}
use Rattle.std.specs.Prelude.{nat_le, nat_lt, min, is_none, count_by, slice_set, All}
use Rattle.std.specs.List.{find}
use Rattle.journal_model.specs.Extents.{Extents}
use Rattle.journal_model.specs.State.{State, numbered, is_just, contains, without, last_of}
use Rattle.journal_model.specs.State.{is_full, stack_of, layer_above, highest_kept}
use Rattle.journal_model.specs.declared.event.Event.{Event}
use Rattle.journal_model.specs.declared.event.Event.TheVariants.{Start, Take, Deploy, Refill}
use Rattle.journal_model.specs.declared.event.Event.TheVariants.{Built, Keep, Dup, Drop, Evict}
use Rattle.journal_model.specs.declared.event.Event.TheVariants.{Park, End, Back, Refuse, Want}
use Rattle.journal_model.specs.declared.event.Event.TheVariants.{Answer}
use Rattle.journal_model.specs.declared.answer.How.{How}
use Rattle.journal_model.specs.declared.answer.How.TheVariants as how
use Rattle.journal_model.specs.declared.state.Standing.{Standing}
use Rattle.journal_model.specs.declared.state.Standing.TheVariants.{Open, Answered, Refused}
use Rattle.journal_model.specs.declared.state.Standing.TheVariants.{Wanted}
use Rattle.journal_model.specs.declared.state.RequestState.{RequestState}
use Rattle.journal_model.specs.declared.state.Duty.{Duty}
use Rattle.journal_model.specs.declared.state.Duty.TheVariants.{Idle, Serves, Over}
use Rattle.journal_model.specs.declared.state.ContextState.{ContextState}
use Rattle.journal_model.specs.declared.state.Owed.{Owed}
use Rattle.journal_model.specs.declared.state.Owed.TheVariants as owed
use Rattle.journal_model.specs.declared.state.Totals.{Totals}
use Rattle.journal_model.specs.declared.state.Judged.{Judged}
use Rattle.journal_model.specs.declared.state.Judged.TheVariants.{Legal, Broken}

-- the most frames that may be free
abbrev pub most_free : ℕ
most_free = 131072

-- the most spare frames that a context holds
abbrev pub most_spares : ℕ
most_spares = 16

-- # What is asked of requests

abbrev pub is_open_standing : Standing → Bool
is_open_standing Open = true
is_open_standing Answered = false
is_open_standing Refused = false
is_open_standing Wanted = false

-- it found no frame, or no memory
abbrev pub is_failed_standing : Standing → Bool
is_failed_standing Open = false
is_failed_standing Answered = false
is_failed_standing Refused = true
is_failed_standing Wanted = true

abbrev pub is_open_one : Option RequestState → Bool
is_open_one None = false
is_open_one (Some r) = is_open_standing r.standing

-- request i was started, and neither answered nor refused nor wanted
unfoldable pub is_open : State → (i : ℕ) → Bool
is_open s i = is_open_one (numbered s.requests i)

abbrev pub is_failed_one : Option RequestState → Bool
is_failed_one None = false
is_failed_one (Some r) = is_failed_standing r.standing

-- request i was refused or wanted
unfoldable pub is_failed : State → (i : ℕ) → Bool
is_failed s i = is_failed_one (numbered s.requests i)

abbrev pub is_waiting_one : Option RequestState → Bool
is_waiting_one None = false
is_waiting_one (Some r) = is_open_standing r.standing && is_none r.context

-- request i is open without a context
unfoldable pub is_waiting : State → (i : ℕ) → Bool
is_waiting s i = is_waiting_one (numbered s.requests i)

abbrev pub function_of_one : Option RequestState → ℕ
function_of_one None = 0
function_of_one (Some r) = r.function

-- the function of request i; 0 where it wasn't started
unfoldable pub request_function : State → (i : ℕ) → ℕ
request_function s i = function_of_one (numbered s.requests i)

-- # What is asked of contexts

abbrev pub is_for_one : (f : ℕ) → Option ContextState → Bool
is_for_one f None = false
is_for_one f (Some x) = x.function == f

-- the most recent of these contexts that is for the function
unfoldable pub first_for : (f : ℕ) → List ContextState → List ℕ → Option ℕ
first_for f contexts cs = find (λ (c : ℕ). is_for_one f (numbered contexts c)) cs

abbrev pub is_duty : (i : ℕ) → Duty → Bool
is_duty i Idle = false
is_duty i (Serves j) = j == i
is_duty i Over = false

abbrev pub serves_one : (i : ℕ) → Option ContextState → Bool
serves_one i None = false
serves_one i (Some x) = is_duty i x.duty

-- context c serves request i
unfoldable pub serves : State → (c i : ℕ) → Bool
serves s c i = serves_one i (numbered s.contexts c)

-- it serves a request
abbrev pub is_busy_duty : Duty → Bool
is_busy_duty Idle = false
is_busy_duty (Serves i) = true
is_busy_duty Over = false

abbrev pub served_by_duty : Duty → ℕ
served_by_duty Idle = 0
served_by_duty (Serves i) = i
served_by_duty Over = 0

abbrev pub served_by_one : Option ContextState → ℕ
served_by_one None = 0
served_by_one (Some x) = served_by_duty x.duty

-- the request that context c serves; 0 where it serves none
unfoldable pub served_by : State → (c : ℕ) → ℕ
served_by s c = served_by_one (numbered s.contexts c)

abbrev pub used_one : (u : ℕ) → Option ContextState → Bool
used_one u None = false
used_one u (Some x) = x.used == u

-- context c has answered u requests
unfoldable pub has_answered : State → (c u : ℕ) → Bool
has_answered s c u = used_one u (numbered s.contexts c)

abbrev pub above_one : Extents → Option ContextState → Option ℕ
above_one sizes None = None
above_one sizes (Some x) = layer_above x.layer (stack_of sizes x.function)

-- the layer directly above the place where context c stands
unfoldable pub above : Extents → State → (c : ℕ) → Option ℕ
above sizes s c = above_one sizes (numbered s.contexts c)

abbrev pub place_of_one : Option ContextState → Option ℕ
place_of_one None = None
place_of_one (Some x) = x.layer

-- where context c stands: the layer, and none at the image
unfoldable pub place_of : State → (c : ℕ) → Option ℕ
place_of s c = place_of_one (numbered s.contexts c)

abbrev pub answered_by_one : Option ContextState → ℕ
answered_by_one None = 0
answered_by_one (Some x) = x.used

-- how many requests context c answered
unfoldable pub answered_by : State → (c : ℕ) → ℕ
answered_by s c = answered_by_one (numbered s.contexts c)

abbrev pub given_to_one : Option RequestState → Option ℕ
given_to_one None = None
given_to_one (Some r) = r.context

-- the context that request i was given
unfoldable pub given_to : State → (i : ℕ) → Option ℕ
given_to s i = given_to_one (numbered s.requests i)

-- where a context stands, if there is one
abbrev pub place_of_given : State → Option ℕ → Option ℕ
place_of_given s None = None
place_of_given s (Some c) = place_of s c

-- # What is owed

abbrev pub owes_nothing : Owed → Bool
owes_nothing owed.Nothing = true
owes_nothing (owed.Dup k) = false
owes_nothing (owed.Keep k) = false
owes_nothing (owed.DropThenKeep k) = false
owes_nothing (owed.End c) = false
owes_nothing (owed.EndOrPark c) = false
owes_nothing (owed.EndOrEvict c) = false
owes_nothing (owed.Park c) = false

abbrev pub owes_dup : Owed → (k : ℕ) → Bool
owes_dup owed.Nothing k = false
owes_dup (owed.Dup j) k = j == k
owes_dup (owed.Keep j) k = false
owes_dup (owed.DropThenKeep j) k = false
owes_dup (owed.End c) k = false
owes_dup (owed.EndOrPark c) k = false
owes_dup (owed.EndOrEvict c) k = false
owes_dup (owed.Park c) k = false

abbrev pub owes_keep : Owed → (k : ℕ) → Bool
owes_keep owed.Nothing k = false
owes_keep (owed.Dup j) k = false
owes_keep (owed.Keep j) k = j == k
owes_keep (owed.DropThenKeep j) k = false
owes_keep (owed.End c) k = false
owes_keep (owed.EndOrPark c) k = false
owes_keep (owed.EndOrEvict c) k = false
owes_keep (owed.Park c) k = false

abbrev pub owes_drop : Owed → Bool
owes_drop owed.Nothing = false
owes_drop (owed.Dup k) = false
owes_drop (owed.Keep k) = false
owes_drop (owed.DropThenKeep k) = true
owes_drop (owed.End c) = false
owes_drop (owed.EndOrPark c) = false
owes_drop (owed.EndOrEvict c) = false
owes_drop (owed.Park c) = false

abbrev pub owes_end : Owed → (c : ℕ) → Bool
owes_end owed.Nothing c = false
owes_end (owed.Dup k) c = false
owes_end (owed.Keep k) c = false
owes_end (owed.DropThenKeep k) c = false
owes_end (owed.End d) c = d == c
owes_end (owed.EndOrPark d) c = d == c
owes_end (owed.EndOrEvict d) c = d == c
owes_end (owed.Park d) c = false

abbrev pub owes_evict : Owed → Bool
owes_evict owed.Nothing = false
owes_evict (owed.Dup k) = false
owes_evict (owed.Keep k) = false
owes_evict (owed.DropThenKeep k) = false
owes_evict (owed.End c) = false
owes_evict (owed.EndOrPark c) = false
owes_evict (owed.EndOrEvict c) = true
owes_evict (owed.Park c) = false

abbrev pub owes_park : Owed → (c : ℕ) → Bool
owes_park owed.Nothing c = false
owes_park (owed.Dup k) c = false
owes_park (owed.Keep k) c = false
owes_park (owed.DropThenKeep k) c = false
owes_park (owed.End d) c = false
owes_park (owed.EndOrPark d) c = d == c
owes_park (owed.EndOrEvict d) c = false
owes_park (owed.Park d) c = d == c

-- what is owed after a `drop`: the `keep` of a layer that was built
abbrev pub owed_after_drop : Owed → Owed
owed_after_drop owed.Nothing = owed.Nothing
owed_after_drop (owed.Dup k) = owed.Nothing
owed_after_drop (owed.Keep k) = owed.Nothing
owed_after_drop (owed.DropThenKeep k) = owed.Keep k
owed_after_drop (owed.End c) = owed.Nothing
owed_after_drop (owed.EndOrPark c) = owed.Nothing
owed_after_drop (owed.EndOrEvict c) = owed.Nothing
owed_after_drop (owed.Park c) = owed.Nothing

-- what is owed after an `evict`: the `park` for which it made room
abbrev pub owed_after_evict : Owed → Owed
owed_after_evict owed.Nothing = owed.Nothing
owed_after_evict (owed.Dup k) = owed.Nothing
owed_after_evict (owed.Keep k) = owed.Nothing
owed_after_evict (owed.DropThenKeep k) = owed.Nothing
owed_after_evict (owed.End c) = owed.Nothing
owed_after_evict (owed.EndOrPark c) = owed.Nothing
owed_after_evict (owed.EndOrEvict c) = owed.Park c
owed_after_evict (owed.Park c) = owed.Nothing

-- what is owed after a layer was built: `dup k` where it is kept; else `keep k`, after the `drop`
-- of the last where there is no room
unfoldable pub owed_after_built : Extents → (kept : List ℕ) → (k : ℕ) → Owed
owed_after_built sizes kept k = if contains k kept then owed.Dup k
    else if is_full sizes.layers kept then owed.DropThenKeep k else owed.Keep k

-- what is owed after context c answered, u requests before this one: `end c`; or `park c` where it
-- may be used again, after the `evict` of the last idle one where there is no room
unfoldable pub owed_after_answer : Extents → (idle : List ℕ) → (c u : ℕ) → Owed
owed_after_answer sizes idle c u = if nat_le 1 sizes.idle && nat_lt (u + 1) sizes.uses
    then (if is_full sizes.idle idle then owed.EndOrEvict c else owed.EndOrPark c)
    else owed.End c

-- # Changes of lists

-- the list with another n-th, counted from 1
unfoldable pub with_numbered : {A : Type 0} → (n : ℕ) → A → List A → List A
with_numbered n x xs = if n == 0 then xs else slice_set xs (n - 1) x

abbrev pub with_change : {A : Type 0} → (A → A) → (n : ℕ) → List A → Option A → List A
with_change f n xs None = xs
with_change f n xs (Some x) = with_numbered n (f x) xs

-- context c has another duty
unfoldable pub with_duty : (c : ℕ) → Duty → List ContextState → List ContextState
with_duty c d xs = with_change (λ (x : ContextState). record x { duty = d }) c xs (numbered xs c)

-- context c stands at layer k
unfoldable pub with_layer : (c k : ℕ) → List ContextState → List ContextState
with_layer c k xs =
    with_change (λ (x : ContextState). record x { layer = Some k }) c xs (numbered xs c)

-- context c has answered so many
unfoldable pub with_used : (c n : ℕ) → List ContextState → List ContextState
with_used c n xs = with_change (λ (x : ContextState). record x { used = n }) c xs (numbered xs c)

-- request i stands otherwise, and its context stood at this place then
unfoldable pub with_standing : (i : ℕ) → Standing → (place : Option ℕ) → List RequestState
    → List RequestState
with_standing i t place xs = with_change
    (λ (r : RequestState). record r { standing = t; place = place }) i xs (numbered xs i)

-- request i was given context c, which had answered u requests
unfoldable pub with_service : (i : ℕ) → How → (c u : ℕ) → List RequestState → List RequestState
with_service i h c u xs = with_change
    (λ (r : RequestState). record r { how = h; context = Some c; used = u }) i xs (numbered xs i)

-- the layer of a deploy goes to the front
abbrev pub to_front : Option ℕ → List ℕ → List ℕ
to_front None kept = kept
to_front (Some k) kept = k ∷ without k kept

-- # The events

-- the clock may show t
abbrev pub is_clock : Option ℕ → (t : ℕ) → Bool
is_clock None t = true
is_clock (Some at) t = t == at

-- a request is started: it is the next one, for a function, when the clock shows what it may
unfoldable pub may_start : Extents → State → (i f t : ℕ) → Bool
may_start sizes s i f t = owes_nothing s.owed && (i == length s.requests + 1)
    && nat_le i sizes.requests && nat_lt f (length sizes.stacks) && is_clock sizes.clock t

unfoldable pub after_start : State → (f t : ℕ) → State
after_start s f t = record s {
  requests = s.requests ++ record {
    function = f;
    clock = t;
    standing = Open;
    how = how.None;
    context = None;
    used = 0;
    place = None;
  } ∷ [];
}

-- an idle context is taken: the most recent of the request's function
unfoldable pub may_take : State → (c i : ℕ) → Bool
may_take s c i = owes_nothing s.owed && is_waiting s i
    && is_just (first_for (request_function s i) s.contexts s.idle) c

unfoldable pub after_take : State → (c i : ℕ) → State
after_take s c i = record s {
  idle = without c s.idle;
  requests = with_service i how.Hot c (answered_by s c) s.requests;
  contexts = with_duty c (Serves i) s.contexts;
}

-- the same place: the image, or the same layer
abbrev pub same_place : (a b : Option ℕ) → Bool
same_place None None = true
same_place None (Some k) = false
same_place (Some j) None = false
same_place (Some j) (Some k) = j == k

-- a context is deployed, where none is idle: the next one, from the highest kept layer
unfoldable pub may_deploy : Extents → State → (c : ℕ) → (k : Option ℕ) → (i n : ℕ) → Bool
may_deploy sizes s c k i n = owes_nothing s.owed && is_waiting s i
    && is_none (first_for (request_function s i) s.contexts s.idle)
    && (c == length s.contexts + 1)
    && same_place (highest_kept s.kept (stack_of sizes (request_function s i))) k
    && (n == sizes.root) && nat_le n s.free

-- from the function's own layer, the topmost of its stack, or from further below
abbrev pub deployed_how : (stack : List ℕ) → (k : Option ℕ) → How
deployed_how stack None = how.Cold
deployed_how stack (Some k) = if is_just (last_of stack) k then how.Warm else how.Cold

unfoldable pub after_deploy : Extents → State → (c : ℕ) → (k : Option ℕ) → (i n : ℕ) → State
after_deploy sizes s c k i n = record s {
  kept = to_front k s.kept;
  requests = with_service i (deployed_how (stack_of sizes (request_function s i)) k) c 0
      s.requests;
  contexts = s.contexts ++ record {
    function = request_function s i;
    layer = k;
    used = 0;
    duty = Serves i;
  } ∷ [];
  free = s.free - n;
}

-- a context that serves an open request takes spare frames: as many as it may and there are
unfoldable pub may_refill : Extents → State → (c h n : ℕ) → Bool
may_refill sizes s c h n = owes_nothing s.owed && (sizes.root == 1) && is_open s (served_by s c)
    && nat_lt h most_spares && (n == min (most_spares - h) s.free) && nat_le 1 n

-- n frames are free no more
unfoldable pub after_refill : State → (n : ℕ) → State
after_refill s n = record s { free = s.free - n }

-- a context that serves an open request is captured as the layer directly above its place
unfoldable pub may_build : Extents → State → (c k : ℕ) → Bool
may_build sizes s c k = owes_nothing s.owed && is_open s (served_by s c)
    && is_just (above sizes s c) k

unfoldable pub after_built : Extents → State → (c k : ℕ) → State
after_built sizes s c k = record s {
  contexts = with_layer c k s.contexts;
  owed = owed_after_built sizes s.kept k;
}

-- the layer that was built comes first among the kept
unfoldable pub after_keep : State → (k : ℕ) → State
after_keep s k = record s { kept = k ∷ s.kept; owed = owed.Nothing }

unfoldable pub after_dup : State → State
after_dup s = record s { owed = owed.Nothing }

abbrev pub is_empty : List ℕ → Bool
is_empty [] = true
is_empty (x ∷ xs) = false

-- nothing is free where frames are counted
abbrev pub is_short : Extents → State → Bool
is_short sizes s = (sizes.root == 1) && (s.free == 0)

-- a kept layer goes: for one that was built; or the last, where nothing is free or idle
unfoldable pub may_drop : Extents → State → (j : ℕ) → Bool
may_drop sizes s j = (owes_drop s.owed
    || (owes_nothing s.owed && is_short sizes s && is_empty s.idle))
    && is_just (last_of s.kept) j

unfoldable pub after_drop : State → (j : ℕ) → State
after_drop s j = record s { kept = without j s.kept; owed = owed_after_drop s.owed }

-- an idle context goes: for one that answered; or the last, where nothing is free
unfoldable pub may_evict : Extents → State → (e : ℕ) → Bool
may_evict sizes s e = (owes_evict s.owed || (owes_nothing s.owed && is_short sizes s))
    && is_just (last_of s.idle) e

unfoldable pub after_evict : State → (e : ℕ) → State
after_evict s e = record s {
  idle = without e s.idle;
  contexts = with_duty e Over s.contexts;
  owed = owed_after_evict s.owed;
}

-- a context answers the open request that it serves
unfoldable pub may_answer : State → (i c u : ℕ) → Bool
may_answer s i c u = owes_nothing s.owed && is_open s i && serves s c i && has_answered s c u

unfoldable pub after_answer : Extents → State → (i c u : ℕ) → State
after_answer sizes s i c u = record s {
  requests = with_standing i Answered (place_of s c) s.requests;
  contexts = with_used c (u + 1) s.contexts;
  owed = owed_after_answer sizes s.idle c u;
}

-- a context that answered is the most recent idle one, and serves nobody
unfoldable pub after_park : State → (c : ℕ) → State
after_park s c = record s {
  idle = c ∷ s.idle;
  contexts = with_duty c Idle s.contexts;
  owed = owed.Nothing;
}

-- a context is over: after its answer, or where its request was refused or wanted
unfoldable pub may_end : State → (c : ℕ) → Bool
may_end s c = owes_end s.owed c || (owes_nothing s.owed && is_failed s (served_by s c))

unfoldable pub after_end : State → (c : ℕ) → State
after_end s c = record s { contexts = with_duty c Over s.contexts; owed = owed.Nothing }

-- frames come back, at least one
unfoldable pub may_go_back : Extents → State → (n : ℕ) → Bool
may_go_back sizes s n = owes_nothing s.owed && (sizes.root == 1) && nat_le 1 n
    && nat_le (s.free + n) most_free

unfoldable pub after_back : State → (n : ℕ) → State
after_back s n = record s { free = s.free + n }

-- an open request is refused, where nothing is free, idle or kept
unfoldable pub may_refuse : State → (i : ℕ) → Bool
may_refuse s i = owes_nothing s.owed && is_open s i && (s.free == 0) && is_empty s.idle
    && is_empty s.kept

-- an open request finds no memory
unfoldable pub may_want : State → (i : ℕ) → Bool
may_want s i = owes_nothing s.owed && is_open s i

-- a request stands otherwise, and nothing else changes
unfoldable pub after_standing : State → (i : ℕ) → Standing → State
after_standing s i t =
    record s { requests = with_standing i t (place_of_given s (given_to s i)) s.requests }

abbrev pub step_if : Bool → State → Option State
step_if may next = if may then Some next else None

-- the state after an event; none where it may not stand there
abbrev pub after : Extents → State → Event → Option State
after sizes s (Start i f t) = step_if (may_start sizes s i f t) (after_start s f t)
after sizes s (Take c i) = step_if (may_take s c i) (after_take s c i)
after sizes s (Deploy c k i n) =
    step_if (may_deploy sizes s c k i n) (after_deploy sizes s c k i n)
after sizes s (Refill c h n) = step_if (may_refill sizes s c h n) (after_refill s n)
after sizes s (Built c k d) = step_if (may_build sizes s c k) (after_built sizes s c k)
after sizes s (Keep k) = step_if (owes_keep s.owed k) (after_keep s k)
after sizes s (Dup k) = step_if (owes_dup s.owed k) (after_dup s)
after sizes s (Drop j) = step_if (may_drop sizes s j) (after_drop s j)
after sizes s (Evict e) = step_if (may_evict sizes s e) (after_evict s e)
after sizes s (Park c) = step_if (owes_park s.owed c) (after_park s c)
after sizes s (End c) = step_if (may_end s c) (after_end s c)
after sizes s (Back n) = step_if (may_go_back sizes s n) (after_back s n)
after sizes s (Refuse i) = step_if (may_refuse s i) (after_standing s i Refused)
after sizes s (Want i) = step_if (may_want s i) (after_standing s i Wanted)
after sizes s (Answer i c u) = step_if (may_answer s i c u) (after_answer sizes s i c u)

-- # Journals

-- nothing was started or drawn, and all frames are free
abbrev pub at_first : Extents → State
at_first sizes = record {
  idle = [];
  kept = [];
  requests = [];
  contexts = [];
  free = sizes.frames;
  owed = owed.Nothing;
}

-- the state after events, one after another; none where one may not stand where it does
unfoldable pub after_all : Extents → State → List Event → Option State
after_all sizes s [] = Some s
after_all sizes s (e ∷ es) = elim (after sizes s e) [ None ↦ None | Some t ↦ after_all sizes t es ]

-- each event may stand where it does, and nothing is owed at the end
pub record IsLegal (sizes : Extents) (events : List Event) : Type 0 where
  pub end : State
  pub reached : after_all sizes (at_first sizes) events ≡ Some end
  pub nothing_owed : owes_nothing end.owed ≡ true

abbrev pub is_cold : How → Bool
is_cold how.Cold = true
is_cold how.Warm = false
is_cold how.Hot = false
is_cold how.None = false

abbrev pub is_warm : How → Bool
is_warm how.Cold = false
is_warm how.Warm = true
is_warm how.Hot = false
is_warm how.None = false

abbrev pub is_hot : How → Bool
is_hot how.Cold = false
is_hot how.Warm = false
is_hot how.Hot = true
is_hot how.None = false

abbrev pub is_without : How → Bool
is_without how.Cold = false
is_without how.Warm = false
is_without how.Hot = false
is_without how.None = true

-- how many requests were started, how many of them each way, and how many frames are free
unfoldable pub totals : State → Totals
totals s = record {
  requests = length s.requests;
  cold = count_by (λ (r : RequestState). is_cold r.how) s.requests;
  warm = count_by (λ (r : RequestState). is_warm r.how) s.requests;
  hot = count_by (λ (r : RequestState). is_hot r.how) s.requests;
  none = count_by (λ (r : RequestState). is_without r.how) s.requests;
  free = s.free;
}

-- what comes of the events from the one at `at` on
unfoldable pub judged_from : Extents → State → (at : ℕ) → List Event → Judged
judged_from sizes s at [] = if owes_nothing s.owed then Legal (totals s) else Broken at
judged_from sizes s at (e ∷ es) =
    elim (after sizes s e) [ None ↦ Broken at | Some t ↦ judged_from sizes t (at + 1) es ]

-- the totals where the events are a legal journal; else the first event that may not stand where
-- it does, or the number of events where one is still owed
abbrev pub judged : Extents → List Event → Judged
judged sizes events = judged_from sizes (at_first sizes) 0 events

-- each started request was answered, refused or wanted, and no context serves anybody
pub record IsWhole (s : State) : Type 0 where
  pub requests : All (λ (r : RequestState). is_open_standing r.standing ≡ false) s.requests
  pub contexts : All (λ (x : ContextState). is_busy_duty x.duty ≡ false) s.contexts
