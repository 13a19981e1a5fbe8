-- What stays of a service while others go on.
use Rattle.std.specs.Prelude.{◌≡◌, ◌≢◌, ℕ, ◌+◌, true, Option, Some, length}
use Rattle.journal_model.specs.Legal.{is_open, owes_nothing, request_function}
use Rattle.journal_model.specs.Reads.{service_of, served}
use Rattle.journal_model.specs.State.{State, numbered}
use Rattle.journal_model.specs.declared.state.ContextState.{ContextState}
use Rattle.journal_model.specs.declared.state.Duty.TheVariants.{Serves}
use Rattle.journal_model.specs.declared.state.RequestState.{RequestState}
use Rattle.journal_model.specs.declared.state.Standing.{Standing}
use Rattle.journal_model.specs.declared.state.Standing.TheVariants.{Open}
use Rattle.service_laws.specs.Serving.{IsServing}

-- A context that is x and serves request j in the one state does so in the other. It served what it
-- had served, and the request has its function and what its line will say of its context.
pub record Stays (j c : ℕ) (x : ContextState) (s t : State) : Type 0 where
  pub serving : IsServing t j c x
  pub served : served t c ≡ served s c
  pub function : request_function t j ≡ request_function s j
  pub service : service_of t j ≡ service_of s j

-- each service stays but that of request i
abbrev pub LeavesOthers : (i : ℕ) → (s t : State) → Type 0
LeavesOthers i s t =
    (j c : ℕ) (x : ContextState) → j ≢ i → IsServing s j c x → Stays j c x s t

-- each context that serves serves an open request, and nothing is owed
pub record IsSettled (s : State) : Type 0 where
  pub are_open : (c j : ℕ) (x : ContextState) → numbered s.contexts c ≡ Some x →
      x.duty ≡ Serves j → is_open s j ≡ true
  pub owes : owes_nothing s.owed ≡ true

-- Of the requests only the i-th changed: it stands so now, and is for the function that it was for,
-- at the clock that it had.
pub record TurnsOnly (i : ℕ) (now : Standing) (s t : State) : Type 0 where
  pub count : length t.requests ≡ length s.requests
  pub others : (j : ℕ) → j ≢ i → numbered t.requests j ≡ numbered s.requests j
  pub before : RequestState
  pub before_is : numbered s.requests i ≡ Some before
  pub after : RequestState
  pub after_is : numbered t.requests i ≡ Some after
  pub standing : after.standing ≡ now
  pub function : after.function ≡ before.function
  pub clock : after.clock ≡ before.clock

-- One request was started, with this number, for this function and at this clock; it is open, and
-- all others stay.
pub record WasStarted (i f k : ℕ) (s t : State) : Type 0 where
  pub number_is : i ≡ length s.requests + 1
  pub count : length t.requests ≡ i
  pub others : (j : ℕ) → j ≢ i → numbered t.requests j ≡ numbered s.requests j
  pub one : RequestState
  pub one_is : numbered t.requests i ≡ Some one
  pub stands : one.standing ≡ Open
  pub function : one.function ≡ f
  pub clock : one.clock ≡ k
