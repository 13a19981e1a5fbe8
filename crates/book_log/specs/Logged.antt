-- What a log of a batch means: its events, the state to which they lead, and the requests that were
-- started.
use Rattle.std.specs.Prelude.{◌≡◌, ℕ, ◌<◌, ◌≤◌, ◌^◌, Bool, true, false, List, length, map, Option}
use Rattle.std.specs.Prelude.{Some, None}
use Rattle.journal_model.specs.Extents.{Extents}
use Rattle.journal_model.specs.State.{State}
use Rattle.journal_model.specs.Legal.{after_all, at_first}
use Rattle.journal_model.specs.declared.event.Event.{Event}
use Rattle.journal_model.specs.declared.event.Event.TheVariants.{Start, Take, Deploy, Refill}
use Rattle.journal_model.specs.declared.event.Event.TheVariants.{Built, Keep, Dup, Drop, Evict}
use Rattle.journal_model.specs.declared.event.Event.TheVariants.{Park, End, Back, Refuse, Want}
use Rattle.journal_model.specs.declared.event.Event.TheVariants.{Answer}
use Rattle.journal_model.specs.declared.state.RequestState.{RequestState}
use Rattle.book_log.specs.declared.started.Started.{Started}

abbrev pub state_or : State → Option State → State
state_or first None = first
state_or first (Some s) = s

-- the state to which events lead; where one may not stand where it does, it is the first one
unfoldable pub replayed : Extents → List Event → State
replayed sizes events = state_or (at_first sizes) (after_all sizes (at_first sizes) events)

-- sizes, events, the state to which they lead, the requests that were started, in the order of
-- their numbers, and for how many events more there is room
pub record Logged : Type 0 where
  pub sizes : Extents
  pub events : List Event
  pub state : State
  pub started : List Started
  pub room : ℕ

-- a request's function and clock, as it was started
abbrev pub key_of_started : Started → ℕ × ℕ
key_of_started one = (one.function, one.given.clock)

-- the same, as the journal has it
abbrev pub key_of_request : RequestState → ℕ × ℕ
key_of_request r = (r.function, r.clock)

-- the events lead to the state, and each request is there as it was started
pub record IsLogged (sizes : Extents) (events : List Event) (s : State) (started : List Started)
    : Type 0 where
  pub reached : after_all sizes (at_first sizes) events ≡ Some s
  pub keys : map key_of_started started ≡ map key_of_request s.requests
  pub few : length started ≤ sizes.requests
  pub most : sizes.requests < 2 ^ 32

-- the event starts no request
abbrev pub starts_none : Event → Bool
starts_none (Start i f t) = false
starts_none (Take c i) = true
starts_none (Deploy c k i n) = true
starts_none (Refill c h n) = true
starts_none (Built c k d) = true
starts_none (Keep k) = true
starts_none (Dup k) = true
starts_none (Drop k) = true
starts_none (Evict c) = true
starts_none (Park c) = true
starts_none (End c) = true
starts_none (Back n) = true
starts_none (Refuse i) = true
starts_none (Want i) = true
starts_none (Answer i c u) = true

-- the event draws a context
abbrev pub draws : Event → Bool
draws (Start i f t) = false
draws (Take c i) = false
draws (Deploy c k i n) = true
draws (Refill c h n) = false
draws (Built c k d) = false
draws (Keep k) = false
draws (Dup k) = false
draws (Drop k) = false
draws (Evict c) = false
draws (Park c) = false
draws (End c) = false
draws (Back n) = false
draws (Refuse i) = false
draws (Want i) = false
draws (Answer i c u) = false
