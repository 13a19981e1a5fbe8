-- How a book goes on.
use Rattle.std.specs.Prelude.{◌≡◌, ℕ, ◌++◌, ◌∷◌, [], List, Option, None, Some, option_map}
use Rattle.book_log.specs.declared.started.Started.{Started}
use Rattle.book_model.specs.Shared.{Shared}
use Rattle.journal_model.specs.Legal.{after_all}
use Rattle.journal_model.specs.State.{numbered}
use Rattle.journal_model.specs.declared.event.Event.{Event}
use Rattle.journal_model.specs.declared.event.Event.TheVariants.{Want, End}
use Rattle.space_api.specs.declared.given.Given.{Given}

-- these events were appended, and no request was started
pub record WentBy {C L H : Type 0} (events : List Event) (old new : Shared C L H) : Type 0 where
  pub sizes_stay : new.sizes ≡ old.sizes
  pub started_stay : new.started ≡ old.started
  pub legal : after_all old.sizes old.state events ≡ Some new.state
  pub events_are : new.events ≡ old.events ++ events

-- a request found no memory, and its context is over, where it has one
abbrev pub wanted_events : (i : ℕ) → (context : Option ℕ) → List Event
wanted_events i None = Want i ∷ []
wanted_events i (Some c) = Want i ∷ End c ∷ []

-- the packet and the clock of request i, of those that were started
abbrev pub given_in : List Started → (i : ℕ) → Option Given
given_in started i = option_map (λ (one : Started). one.given) (numbered started i)
