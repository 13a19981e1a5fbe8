-- How far a batch has come, between two steps of its services.
use Rattle.std.specs.Prelude.{◌≡◌, ℕ, ◌<◌, ◌==◌, Bool, true, false, if◌then◌else◌, List}
use Rattle.std.specs.Prelude.{Option, Some, IsSome, length, take, slice_get}
use Rattle.batch_model.specs.Events.{ParksRightly, is_ok}
use Rattle.batch_model.specs.Replies.{IsLineOf}
use Rattle.batch_model.specs.Setting.{Setting, sizes_of}
use Rattle.book_log.specs.Logged.{IsLogged}
use Rattle.book_log.specs.declared.started.Started.{Started}
use Rattle.book_model.specs.Shared.{Shared}
use Rattle.journal_model.specs.Legal.{is_open_standing}
use Rattle.journal_model.specs.State.{numbered}
use Rattle.journal_model.specs.declared.answer.Answer.{Answer}
use Rattle.journal_model.specs.declared.state.RequestState.{RequestState}
use Rattle.line_laws.specs.Asked.{AreAsked, asked_of_request, asked_of_started}
use Rattle.plan_model.specs.Outline.{Outline}
use Rattle.request_lines.specs.declared.request.Request.{Request}
use Rattle.service_model.specs.Going.{given_in}
use Rattle.service_model.specs.Staying.{IsSettled}
use Rattle.service_model.specs.Ticking.{BuildsTook}

-- over copied pages, with the clock that the plan says
abbrev pub copied_setting : Outline → Setting
copied_setting plan = record { plan = plan; fixed_clock = true; root = 0 }

-- ---- lines, by the numbers of their requests

-- the lines that there are, with that of request i
abbrev pub with_line : (i : ℕ) → Answer → (ℕ → Option Answer) → ℕ → Option Answer
with_line i answer answers j = if j == i then Some answer else answers j

-- where a request has a line, this says whether it ended with `ok`
abbrev pub TellsEnds : (answers : ℕ → Option Answer) → (ok : ℕ → Bool) → Type 0
TellsEnds answers ok =
    (i : ℕ) (answer : Answer) → answers i ≡ Some answer → ok i ≡ is_ok answer.end

-- one line for each request, in their order
pub record AreInOrder (requests : List Request) (answers : ℕ → Option Answer)
    (lines : List Answer) : Type 0 where
  pub count : length lines ≡ length requests
  pub each : (i : ℕ) (answer : Answer) → numbered lines i ≡ Some answer →
      answers i ≡ Some answer

-- ---- the batch

-- The batch of these requests has come so far: these are the lines of the requests that are closed,
-- and the layers that were built took so many instructions.
pub record IsSoFar {C L H : Type 0} (plan : Outline) (requests : List Request)
    (answers : ℕ → Option Answer) (took : ℕ) (book : Shared C L H) : Type 0 where
  -- the book is one of these requests
  pub sizes_are : book.sizes ≡ sizes_of (copied_setting plan) requests
  -- its journal is legal so far, and each request is there as it was started
  pub log : IsLogged book.sizes book.events book.state book.started
  -- each context that serves serves an open request, and nothing is owed
  pub settled : IsSettled book.state
  -- the first of the requests were started, in their order
  pub asked : AreAsked (take (length book.started) requests) book.started
  -- each line is that of its request, which is closed; it stays, whatever comes later
  pub lines : (i : ℕ) (answer : Answer) → answers i ≡ Some answer →
      IsLineOf plan (given_in book.started) book.state i answer
  -- each request that is closed has its line
  pub closed : (i : ℕ) (request : RequestState) →
      numbered book.state.requests i ≡ Some request →
      is_open_standing request.standing ≡ false → IsSome (answers i)
  -- contexts that answered are parked rightly, whatever lines come
  pub parks : (ok : ℕ → Bool) → TellsEnds answers ok →
      ParksRightly plan.numbers ok book.events
  -- each layer was built rightly, and all took so many instructions together
  pub took_is : BuildsTook plan book.events took

-- What is to be started is the next of the requests, at the plan's clock, for one of its functions.
pub record IsNext {C L H : Type 0} (plan : Outline) (requests : List Request) (one : Started)
    (book : Shared C L H) : Type 0 where
  pub request : Request
  pub request_is : slice_get requests (length book.started) ≡ Some request
  pub asks : asked_of_started one ≡ asked_of_request request
  pub clock_is : one.given.clock ≡ plan.numbers.clock
  pub for_function : one.function < length plan.functions
