-- What all workers share: the book as its sizes, its journal, what waits and what is kept.
use Rattle.std.specs.Prelude.{ℕ, Bool, List}
use Rattle.journal_model.specs.Extents.{Extents}
use Rattle.journal_model.specs.State.{State}
use Rattle.journal_model.specs.declared.event.Event.{Event}
use Rattle.book_log.specs.declared.started.Started.{Started}
use Rattle.slot_lists.specs.Lists.{Waiting}

-- The sizes, the events, the state to which they lead, and the requests that were started, in the
-- order of their numbers; the idle contexts by their numbers, the most recently parked first; the
-- kept layers by theirs, the most recently used first; the images in order, the shelf, and whether
-- the book was stopped.
pub record Shared (C L H : Type 0) : Type 0 where
  pub sizes : Extents
  pub events : List Event
  pub state : State
  pub started : List Started
  pub idle : List (ℕ × Waiting C)
  pub kept : List (ℕ × L)
  pub images : List L
  pub shelf : H
  pub stopped : Bool
