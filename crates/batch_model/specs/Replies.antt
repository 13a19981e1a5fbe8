-- What the line of a request says.
use Rattle.std.specs.Prelude.{◌≡◌, ℕ, ◌+◌, List, [], ◌∷◌, length, map, Option, None, Some}
use Rattle.journal_model.specs.State.{State, numbered}
use Rattle.journal_model.specs.Reads.{service_of, earlier}
use Rattle.journal_model.specs.declared.answer.Answer.{Answer}
use Rattle.journal_model.specs.declared.answer.End.{End}
use Rattle.journal_model.specs.declared.answer.End.TheVariants as end
use Rattle.journal_model.specs.declared.answer.Why.{Why}
use Rattle.journal_model.specs.declared.answer.Why.TheVariants as why
use Rattle.journal_model.specs.declared.state.RequestState.{RequestState}
use Rattle.journal_model.specs.declared.state.Standing.{Standing}
use Rattle.journal_model.specs.declared.state.Standing.TheVariants.{Open, Answered, Refused}
use Rattle.journal_model.specs.declared.state.Standing.TheVariants.{Wanted}
use Rattle.layer_model.specs.Replies.{Ending, Ran, NoLayer, Reply, IsReply}
use Rattle.machine_model.specs.declared.stop.Stop.{Stop}
use Rattle.machine_model.specs.declared.stop.Stop.TheVariants as stop
use Rattle.plan_model.specs.Outline.{Outline}
use Rattle.space_api.specs.declared.given.Given.{Given}

-- ---- what a line shows of a run

-- how the request ended, how many instructions were counted, and the packets and console bytes
pub record Shown : Type 0 where
  pub end : End
  pub steps : ℕ
  pub net : List (List ℕ)
  pub console : List ℕ

-- of a request that had no run
abbrev pub nothing_but : End → Shown
nothing_but end = record { end = end; steps = 0; net = []; console = [] }

abbrev pub shown_in : Answer → Shown
shown_in answer = record {
  end = answer.end;
  steps = answer.steps;
  net = answer.net;
  console = answer.console;
}

-- the word for a stop of a request's run, which has no trigger
abbrev pub end_of_stop : Stop → Option End
end_of_stop stop.Trigger = None
end_of_stop stop.Budget = Some end.Budget
end_of_stop (stop.Exception cause pc tval) = Some (end.Fault cause pc tval)
end_of_stop stop.Rest = Some end.Ok
end_of_stop (stop.Halt code) = Some (end.Halt code)

-- the word for a stop of a layer's run elsewhere than at its trigger
abbrev pub why_of_stop : Stop → Option Why
why_of_stop stop.Trigger = None
why_of_stop stop.Budget = Some why.Budget
why_of_stop (stop.Exception cause pc tval) = Some (why.Fault cause pc tval)
why_of_stop stop.Rest = Some why.Rest
why_of_stop (stop.Halt code) = Some (why.Halt code)

abbrev pub no_layer_end : (k : ℕ) → Option Why → Option End
no_layer_end k None = None
no_layer_end k (Some why) = Some (end.NoLayer k why)

abbrev pub end_of_ending : Ending → Option End
end_of_ending (Ran stop) = end_of_stop stop
end_of_ending (NoLayer k why) = no_layer_end k (why_of_stop why)

-- What is shown is what a machine with memory of its own replies to a request of the function,
-- where the context stands at the place and has served these requests.
pub record Shows (plan : Outline) (function : ℕ) (place : Option ℕ) (served : List Given)
    (given : Given) (shown : Shown) : Type 0 where
  pub reply : Reply
  pub replied : IsReply plan function place served given reply
  pub end_is : end_of_ending reply.ending ≡ Some shown.end
  pub steps_are : shown.steps ≡ reply.number
  pub net_is : shown.net ≡ reply.packets
  pub console_is : shown.console ≡ reply.console

-- ---- what a line shows, by the journal

-- these are the requests of the numbers, in this order
abbrev pub AreGiven : (given : ℕ → Option Given) → (numbers : List ℕ) → List Given → Type 0
AreGiven given numbers served = map Some served ≡ map given numbers

-- The request was answered: a line shows the reply at the place where the context stood then,
-- after the requests that the context had answered before this one.
pub record ShowsAnswer (plan : Outline) (given : ℕ → Option Given) (s : State) (i : ℕ)
    (request : RequestState) (shown : Shown) : Type 0 where
  pub before : List Given
  pub before_are : AreGiven given (earlier s i) before
  pub own : Given
  pub own_is : given i ≡ Some own
  pub shows : Shows plan request.function request.place before own shown

-- a line shows what became of the request, by how the journal closed it
abbrev pub ShowsClosed : Outline → (given : ℕ → Option Given) → State → (i : ℕ) → RequestState
    → Shown → Standing → Type 0
ShowsClosed plan given s i request shown Open = ⊥
ShowsClosed plan given s i request shown Answered = ShowsAnswer plan given s i request shown
ShowsClosed plan given s i request shown Refused = shown ≡ nothing_but end.Frames
ShowsClosed plan given s i request shown Wanted = shown ≡ nothing_but end.Memory

-- ---- lines

-- The line of request i, by a journal that leads to this state, where requests have these packets
-- and clocks. It is fixed as soon as the request is closed: no later event changes it.
pub record IsLineOf (plan : Outline) (given : ℕ → Option Given) (s : State) (i : ℕ)
    (answer : Answer) : Type 0 where
  -- it is request i's, which was started
  pub number_is : answer.i ≡ i
  pub request : RequestState
  pub request_is : numbered s.requests i ≡ Some request
  -- where its context came from, which that is, and how many requests that had answered
  pub how_is : answer.how ≡ (service_of s i).how
  pub context_is : answer.context ≡ (service_of s i).context
  pub used_is : answer.used ≡ (service_of s i).used
  -- its end is `frames` exactly where the request was refused and `memory` exactly where it was
  -- wanted; else it shows what the machine replied
  pub shows : ShowsClosed plan given s i request (shown_in answer) request.standing

-- these are the lines of requests in a row, of which the first is the n-th
abbrev pub AreLinesFrom : Outline → (given : ℕ → Option Given) → State → (n : ℕ) → List Answer
    → Type 0
AreLinesFrom plan given s n [] = Unit {0}
AreLinesFrom plan given s n (answer ∷ answers) =
    IsLineOf plan given s n answer × AreLinesFrom plan given s (n + 1) answers

-- one for each request that was started, in their order
pub record AreLinesOf (plan : Outline) (given : ℕ → Option Given) (s : State)
    (answers : List Answer) : Type 0 where
  pub count : length answers ≡ length s.requests
  pub lines : AreLinesFrom plan given s 1 answers
