-- What a right batch is.
use Rattle.std.specs.Prelude.{◌≡◌, ℕ, true, List, map, Some}
use Rattle.journal_model.specs.State.{State}
use Rattle.journal_model.specs.Legal.{after_all, at_first, owes_nothing, IsWhole}
use Rattle.journal_model.specs.declared.answer.Answer.{Answer}
use Rattle.journal_model.specs.declared.event.Event.{Event}
use Rattle.journal_model.specs.declared.state.RequestState.{RequestState}
use Rattle.request_lines.specs.declared.request.Request.{Request}
use Rattle.batch_model.specs.Setting.{Setting, sizes_of, given_of}
use Rattle.batch_model.specs.Replies.{AreLinesOf}
use Rattle.batch_model.specs.Events.{ParksRightly, ok_in, BuildsRightly}
use Rattle.batch_model.specs.Text.{batch_text}

-- ---- the journal

-- the requests that were started are these, each for its function
abbrev pub AreStarted : List Request → List RequestState → Type 0
AreStarted requests started =
    map (λ (r : RequestState). r.function) started ≡ map (λ (r : Request). r.function) requests

pub record IsWholeJournal (setting : Setting) (requests : List Request) (events : List Event)
    (s : State) : Type 0 where
  -- it is legal: each event may stand where it does, and nothing is owed at the end
  pub reached : after_all (sizes_of setting requests) (at_first (sizes_of setting requests)) events
      ≡ Some s
  pub nothing_owed : owes_nothing s.owed ≡ true
  -- it is whole: each started request was answered, refused or wanted, and no context serves one
  pub whole : IsWhole s
  -- it started every request, with the function that it names
  pub started : AreStarted requests s.requests

-- ---- frames

-- The place of what is asked of frames where a deploy takes one: which refusals, evictions and
-- refills the frames bear out. Nothing is said of such batches as yet, so none of them is right;
-- over copied pages no event takes a frame.
abbrev pub KeepsFrames : Setting → List Request → List Event → Type 0
KeepsFrames setting requests events = setting.root ≡ 0

-- ---- the batch

-- These lines, with this journal, which leads to this state, are those of a right batch.
pub record IsRight (setting : Setting) (requests : List Request) (answers : List Answer)
    (events : List Event) (s : State) : Type 0 where
  -- The journal is legal and whole, and it started every request.
  pub journal : IsWholeJournal setting requests events s
  -- The lines are those of the requests, in their order: each with how, context and use by the
  -- journal, and with what the machine replies to its packet and clock, after the requests that its
  -- context answered before, at the place where that stood.
  pub lines : AreLinesOf setting.plan (given_of requests s) s answers
  -- After an answer the context is parked exactly where the request ended with `ok`, there is room
  -- for idle contexts, and the context may be used again.
  pub parks : ParksRightly setting.plan.numbers (ok_in answers) events
  -- Each layer was built with as many pages as its run wrote.
  pub builds : BuildsRightly setting.plan events
  -- What is asked of frames holds.
  pub frames : KeepsFrames setting requests events

-- The text is that of a right batch of these requests.
pub record Fits (setting : Setting) (requests : List Request) (text : List ℕ) : Type 0 where
  pub answers : List Answer
  pub events : List Event
  pub state : State
  pub right : IsRight setting requests answers events state
  -- the lines of the requests, those of the journal, and the totals
  pub spelled : text ≡ batch_text answers events state
