-- What is asked where a service ends.
use Rattle.std.specs.Prelude.{◌≡◌, ℕ, ◌+◌, ◌<◌, ◌&&◌, ◌++◌, ◌∷◌, [], Bool, List, None, Some, length}
use Rattle.std.specs.Prelude.{nat_le, nat_lt}
use Rattle.batch_model.specs.Events.{is_ok}
use Rattle.batch_model.specs.Replies.{AreGiven, Shows, shown_in}
use Rattle.book_model.specs.Kept.{IsNoted, givens}
use Rattle.book_model.specs.Shared.{Shared}
use Rattle.context_runs.specs.declared.replying.RunReply.{RunReply}
use Rattle.context_uc.specs.Views.{ContextView, parked_of}
use Rattle.deployer.specs.Grounds.{IsContextOf}
use Rattle.deployer.specs.Hosting.{Telling}
use Rattle.journal_model.specs.Legal.{request_function}
use Rattle.journal_model.specs.Reads.{Service as Known, service_of, served}
use Rattle.journal_model.specs.declared.answer.Answer.{Answer}
use Rattle.journal_model.specs.declared.answer.End.{End}
use Rattle.journal_model.specs.declared.state.ContextState.{ContextState}
use Rattle.plan_model.specs.Outline.{Outline}
use Rattle.plan_model.specs.declared.numbers.Numbers.{Numbers}
use Rattle.request_service.specs.UnderWay.{IsKnownAs}
use Rattle.request_service.specs.declared.service.Origin.{Origin}
use Rattle.service_laws.specs.Serving.{IsServing}
use Rattle.service_model.specs.Going.{given_in}
use Rattle.space_api.specs.declared.given.Given.{Given}

-- whether a context that answered so, after so many others, is to be parked
abbrev pub to_park : Numbers → End → (used : ℕ) → Bool
to_park numbers end used = is_ok end && nat_le 1 numbers.idle && nat_lt (used + 1) numbers.uses

-- what a line says of the context of its request
abbrev pub known_in : Answer → Known
known_in a = record { how = a.how; context = a.context; used = a.used }

-- the line of a request with this reply
abbrev pub line_of : Origin → RunReply → Answer
line_of o r = record {
  i = o.i;
  how = o.how;
  context = o.context;
  used = o.used;
  end = r.end;
  steps = r.steps;
  net = r.net;
  console = r.console;
}

module _ {C L H : Type 0} where
  -- the context of that number serves the request, of which the journal says so
  pub record IsHeldBy (o : Origin) (c : ℕ) (book : Shared C L H) : Type 0 where
    pub known : IsKnownAs o book.state
    pub state : ContextState
    pub serving : IsServing book.state o.i c state

  -- the context of the line serves the request, after as many as the line says
  pub record IsServedBy (a : Answer) (book : Shared C L H) : Type 0 where
    pub state : ContextState
    pub serving : IsServing book.state a.i a.context state
    pub used_is : state.used ≡ a.used

  -- The line is the request's, once that is answered: it says of the context what the journal does,
  -- and shows the reply at the context's place, after what that served.
  pub record IsDue (plan : Outline) (a : Answer) (book : Shared C L H) : Type 0 where
    pub known : service_of book.state a.i ≡ known_in a
    pub by : IsServedBy a book
    pub before : List Given
    pub before_are : AreGiven (given_in book.started) (served book.state a.context) before
    pub own : Given
    pub own_is : given_in book.started a.i ≡ Some own
    pub shows : Shows plan (request_function book.state a.i) by.state.layer before own (shown_in a)

-- The context served the request as the last one, and may be idle.
pub record MayIdle {S L H : Type 0} (telling : Telling S) (a : Answer) (c : ContextView S)
    (book : Shared (ContextView S) L H) : Type 0 where
  pub by : IsServedBy a book
  pub id_is : c.id ≡ a.context
  pub count : length c.served ≡ a.used + 1
  pub of_plan : IsContextOf c.plan c
  pub noted : IsNoted by.state c.id (givens book.started (served book.state c.id ++ a.i ∷ []))
      (parked_of telling.spares c)
  pub loose : telling.pin c.space ≡ None
  pub stripped_few : c.stripped < length c.served
