-- The batch after a step of a service.
use Rattle.std.proofs.Common.{◌≡◌, ◌≢◌, ℕ, ◌+◌, ◌≤◌, ◌⊎◌, inl, inr, Bool, true, false, List}
use Rattle.std.proofs.Common.{◌++◌, length, Option, None, Some, refl, sym, ◌∙◌, ap, subst, arith}
use Rattle.std.specs.Prelude.{IsSome}
use Rattle.std.proofs.lemmas.Option.{none-some, same_Some}
use Rattle.batch_laws.specs.SoFar.{IsSoFar, TellsEnds, with_line}
use Rattle.batch_laws.proofs.Logs.{logged_more}
use Rattle.batch_laws.proofs.Numbered.{line_here, line_other, within}
use Rattle.batch_model.specs.Events.{is_ok}
use Rattle.batch_model.specs.Replies.{IsLineOf, ShowsClosed, shown_in, Shown}
use Rattle.batch_model.proofs.Appending.{line_stays, parks_join}
use Rattle.batch_model.proofs.Fixed.{one_line}
use Rattle.book_log.proofs.Logging.{counted}
use Rattle.book_log.specs.declared.started.Started.{Started}
use Rattle.book_model.specs.Shared.{Shared}
use Rattle.journal_laws.proofs.Naming.{open_is}
use Rattle.journal_model.specs.Extents.{Extents}
use Rattle.journal_model.specs.Legal.{is_open, is_open_standing}
use Rattle.journal_model.specs.State.{State, numbered}
use Rattle.journal_model.specs.declared.answer.Answer.{Answer}
use Rattle.journal_model.specs.declared.event.Event.{Event}
use Rattle.journal_model.specs.declared.state.RequestState.{RequestState}
use Rattle.journal_model.specs.declared.state.Standing.{Standing}
use Rattle.journal_model.specs.declared.state.Standing.TheVariants.{Open, Answered, Refused}
use Rattle.journal_model.specs.declared.state.Standing.TheVariants.{Wanted}
use Rattle.journal_model.proofs.Looks.{decide}
use Rattle.plan_model.specs.Outline.{Outline}
use Rattle.request_lines.specs.declared.request.Request.{Request}
use Rattle.request_service.specs.Turns.{Closes, Goes}
use Rattle.service_model.specs.Going.{WentBy, given_in}
use Rattle.service_model.specs.Staying.{TurnsOnly}
use Rattle.service_model.specs.Ticking.{BuildsTook}
use Rattle.space_api.specs.declared.given.Given.{Given}
use Rattle.stay_laws.proofs.Parks.{took_both}

-- ---- a book that went by events

module _ {C L H : Type 0} where
  -- the book as it would be of these sizes, events and requests
  abbrev pub made_of : Shared C L H → Extents → List Event → List Started → Shared C L H
  made_of book sizes events started = record book {
    sizes = sizes;
    events = events;
    started = started;
  }

  -- what holds of the old sizes and requests, and of all events, holds of a book
  pub went_to : (P : Shared C L H → Type 0) (events : List Event) (old new : Shared C L H)
      → WentBy events old new
      → P (made_of new old.sizes (old.events ++ events) old.started) → P new
  went_to P events old new went h =
      subst (λ sizes. P (made_of new sizes new.events new.started)) (sym went.sizes_stay)
      (subst (λ es. P (made_of new old.sizes es new.started)) (sym went.events_are)
      (subst (λ xs. P (made_of new old.sizes (old.events ++ events) xs)) (sym went.started_stay)
      h))

-- ---- which requests are closed

shut : (standing now : Standing) → now ≡ Open → standing ≡ now
    → is_open_standing standing ≡ false → ⊥
shut standing now is same closed =
    let e : true ≡ false = sym (ap is_open_standing (same ∙ is)) ∙ closed in cc

-- a request that is closed after one turned was closed before, or is that one
closed_before : (i : ℕ) (now : Standing) (s t : State) (j : ℕ) (r : RequestState)
    → TurnsOnly i now s t → j ≢ i → numbered t.requests j ≡ Some r
    → numbered s.requests j ≡ Some r
closed_before i now s t j r turns d is = sym (turns.others j d) ∙ is

still_open : (i : ℕ) (s t : State) (j : ℕ) (r : RequestState) → TurnsOnly i Open s t → j ≡ i
    → numbered t.requests j ≡ Some r → is_open_standing r.standing ≡ false → ⊥
still_open i s t j r turns e is closed =
    let same = same_Some turns.after r (sym turns.after_is
    ∙ (sym (ap (λ n. numbered t.requests n) e) ∙ is)) in
    shut r.standing turns.after.standing turns.standing
    (sym (ap (λ (q : RequestState). q.standing) same)) closed

-- ---- a request that is still open

module _ {C L H : Type 0} where
  goes_at : (plan : Outline) (requests : List Request) (answers : ℕ → Option Answer)
      (took i more : ℕ) (events : List Event) (old new : Shared C L H)
      → IsSoFar plan requests answers took old → Goes plan i events more old new
      → IsSoFar plan requests answers (took + more)
      (made_of new old.sizes (old.events ++ events) old.started)
  goes_at plan requests answers took i more events old new so goes = record {
    sizes_are = so.sizes_are;
    log = logged_more old.sizes old.events old.state old.started events i Open new.state so.log
        goes.went.legal goes.turns;
    settled = goes.settled so.settled;
    asked = so.asked;
    lines = λ j answer is. line_stays plan old.sizes old.events events old.state new.state
        (given_in old.started) (given_in old.started) j answer so.log.reached goes.went.legal
        (λ k one given. given) (so.lines j answer is);
    closed = λ j r is closed. closed_at j r is closed (decide j i);
    parks = λ ok tells. parks_join plan.numbers ok old.events events (so.parks ok tells)
        (goes.parks ok);
    took_is = took_both plan old.events events took more so.took_is goes.took_is;
  } where
    closed_at : (j : ℕ) (r : RequestState) → numbered new.state.requests j ≡ Some r
        → is_open_standing r.standing ≡ false → (j ≡ i) ⊎ (j ≢ i) → IsSome (answers j)
    closed_at j r is closed (inl e) =
        absurd (still_open i old.state new.state j r goes.turns e is closed)
    closed_at j r is closed (inr d) = so.closed j r
        (closed_before i Open old.state new.state j r goes.turns d is) closed

  pub goes_on : (plan : Outline) (requests : List Request) (answers : ℕ → Option Answer)
      (took i more : ℕ) (events : List Event) (old new : Shared C L H)
      → IsSoFar plan requests answers took old → Goes plan i events more old new
      → IsSoFar plan requests answers (took + more) new
  goes_on plan requests answers took i more events old new so goes =
      went_to (λ book. IsSoFar plan requests answers (took + more) book) events old new goes.went
      (goes_at plan requests answers took i more events old new so goes)

-- ---- a request that is closed

shows_closed : (plan : Outline) (given : ℕ → Option Given) (s : State) (i : ℕ)
    (request : RequestState) (shown : Shown) (standing : Standing)
    → ShowsClosed plan given s i request shown standing → is_open_standing standing ≡ false
shows_closed plan given s i request shown Open h = absurd h
shows_closed plan given s i request shown Answered h = refl
shows_closed plan given s i request shown Refused h = refl
shows_closed plan given s i request shown Wanted h = refl

-- a request that has a line is closed
pub line_closed : (plan : Outline) (given : ℕ → Option Given) (s : State) (i : ℕ)
    (answer : Answer) (line : IsLineOf plan given s i answer)
    → is_open_standing line.request.standing ≡ false
line_closed plan given s i answer line = shows_closed plan given s i line.request
    (shown_in answer) line.request.standing line.shows

is_some_to : {A : Type 0} (o : Option A) (x : A) → o ≡ Some x → IsSome o
is_some_to o x is = subst (λ p. IsSome p) (sym is) refl

is_some_so : {A : Type 0} (o p : Option A) → o ≡ p → IsSome p → IsSome o
is_some_so o p same h = subst (λ q. IsSome q) (sym same) h

module _ {C L H : Type 0} (plan : Outline) (requests : List Request)
    (answers : ℕ → Option Answer) (took i : ℕ) (answer : Answer) (events : List Event)
    (old new : Shared C L H) (so : IsSoFar plan requests answers took old)
    (closes : Closes plan i answer events old new) where
  -- a line that there was is the request's still
  line_then : (j : ℕ) (b : Answer) → answers j ≡ Some b
      → IsLineOf plan (given_in old.started) new.state j b
  line_then j b is = line_stays plan old.sizes old.events events old.state new.state
      (given_in old.started) (given_in old.started) j b so.log.reached closes.went.legal
      (λ k one given. given) (so.lines j b is)

  line_at : (j : ℕ) (b : Answer) → with_line i answer answers j ≡ Some b → (j ≡ i) ⊎ (j ≢ i)
      → IsLineOf plan (given_in old.started) new.state j b
  line_at j b is (inl e) =
      let same : answer ≡ b = same_Some answer b
      (sym (line_here i answer answers j e) ∙ is) in
      subst (λ k. IsLineOf plan (given_in old.started) new.state k b) (sym e)
      (subst (λ a. IsLineOf plan (given_in old.started) new.state i a) same closes.line)
  line_at j b is (inr d) = line_then j b (sym (line_other i answer answers j d) ∙ is)

  closed_at : (j : ℕ) (r : RequestState) → numbered new.state.requests j ≡ Some r
      → is_open_standing r.standing ≡ false → (j ≡ i) ⊎ (j ≢ i)
      → IsSome (with_line i answer answers j)
  closed_at j r is closed (inl e) = is_some_to (with_line i answer answers j) answer
      (line_here i answer answers j e)
  closed_at j r is closed (inr d) = is_some_so (with_line i answer answers j) (answers j)
      (line_other i answer answers j d) (so.closed j r
      (closed_before i closes.now old.state new.state j r closes.turns d is) closed)

  -- where these are the ends of the lines with the new one, they are those of the lines before
  ends_before : (ok : ℕ → Bool) → TellsEnds (with_line i answer answers) ok → (j : ℕ)
      (b : Answer) → answers j ≡ Some b → (j ≡ i) ⊎ (j ≢ i) → ok j ≡ is_ok b.end
  ends_before ok tells j b is (inl e) =
      let there = subst (λ k. IsLineOf plan (given_in old.started) new.state k b) e
      (line_then j b is) in
      let same = one_line plan (given_in old.started) new.state i answer b closes.line there in
      tells j answer (line_here i answer answers j e)
      ∙ ap (λ (a : Answer). is_ok a.end) same
  ends_before ok tells j b is (inr d) = tells j b (line_other i answer answers j d ∙ is)

  closes_at : IsSoFar plan requests (with_line i answer answers) took
      (made_of new old.sizes (old.events ++ events) old.started)
  closes_at = record {
    sizes_are = so.sizes_are;
    log = logged_more old.sizes old.events old.state old.started events i closes.now new.state
        so.log closes.went.legal closes.turns;
    settled = closes.settled so.settled;
    asked = so.asked;
    lines = λ j b is. line_at j b is (decide j i);
    closed = λ j r is closed. closed_at j r is closed (decide j i);
    parks = λ ok tells. parks_join plan.numbers ok old.events events
        (so.parks ok (λ j b is. ends_before ok tells j b is (decide j i)))
        (closes.parks ok (tells i answer (line_here i answer answers i refl)));
    took_is = subst (λ n. BuildsTook plan (old.events ++ events) n) (omega arith)
        (took_both plan old.events events took 0 so.took_is closes.none_built);
  }

  pub closes_one : IsSoFar plan requests (with_line i answer answers) took new
  closes_one = went_to (λ book. IsSoFar plan requests (with_line i answer answers) took book)
      events old new closes.went closes_at

-- ---- requests without a line

no_line : {C L H : Type 0} (plan : Outline) (requests : List Request)
    (answers : ℕ → Option Answer) (took i : ℕ) (book : Shared C L H) (o : Option Answer)
    → answers i ≡ o → IsSoFar plan requests answers took book
    → ((r : RequestState) → numbered book.state.requests i ≡ Some r
    → is_open_standing r.standing ≡ false → ⊥) → o ≡ None
no_line plan requests answers took i book None is so open_one = refl
no_line plan requests answers took i book (Some a) is so open_one =
    let line = so.lines i a is in
    absurd (open_one line.request line.request_is
    (line_closed plan (given_in book.started) book.state i a line))

open_not_closed : (s : State) (i : ℕ) → is_open s i ≡ true → (r : RequestState)
    → numbered s.requests i ≡ Some r → is_open_standing r.standing ≡ false → ⊥
open_not_closed s i open_one r is closed = let o = open_is s i open_one in
    let same = same_Some o.one r (sym o.entry ∙ is) in
    let e : true ≡ false = sym o.stands
    ∙ (ap (λ (q : RequestState). is_open_standing q.standing) same ∙ closed) in cc

pub open_has_none : {C L H : Type 0} (plan : Outline) (requests : List Request)
    (answers : ℕ → Option Answer) (took i : ℕ) (book : Shared C L H)
    → IsSoFar plan requests answers took book → is_open book.state i ≡ true
    → (answers i ≡ None) × (1 ≤ i) × (i ≤ length requests)
open_has_none plan requests answers took i book so open_one =
    let o = open_is book.state i open_one in
    let w = within book.state.requests i o.one o.entry in
    let count = counted book.sizes book.events book.state book.started so.log in
    let few = so.log.few in
    let most : book.sizes.requests ≡ length requests
    = ap (λ (z : Extents). z.requests) so.sizes_are in
    let next = w.next in
    let there = w.there in (
      no_line plan requests answers took i book (answers i) refl so
          (open_not_closed book.state i open_one),
      omega (arith, next),
      omega (arith, next, there, count, few, most),
    )

pub unstarted_has_none : {C L H : Type 0} (plan : Outline) (requests : List Request)
    (answers : ℕ → Option Answer) (took i : ℕ) (book : Shared C L H)
    → IsSoFar plan requests answers took book → numbered book.state.requests i ≡ None
    → answers i ≡ None
unstarted_has_none plan requests answers took i book so none =
    no_line plan requests answers took i book (answers i) refl so
    (λ r is closed. none-some r (sym none ∙ is))
