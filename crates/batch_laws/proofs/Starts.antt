-- Where a batch begins, and its requests, as they are started.
use Rattle.std.proofs.Common.{◌≡◌, ◌≢◌, ℕ, ◌+◌, ◌≤◌, ◌<◌, ◌⊎◌, inl, inr, true, false, List}
use Rattle.std.proofs.Common.{[], ◌∷◌, ◌++◌, ◌==◌, length, map, take, Option, None, Some, refl}
use Rattle.std.proofs.Common.{sym, ◌∙◌, ap, subst, arith}
use Rattle.std.proofs.lemmas.List.{length-map}
use Rattle.std.proofs.lemmas.Option.{none-some, same_Some, slice_get_within}
use Rattle.std.specs.List.{slice_get}
use Rattle.std.specs.Prelude.{IsSome, option_map}
use Rattle.batch_laws.specs.SoFar.{IsNext, IsSoFar, copied_setting}
use Rattle.batch_laws.proofs.Numbered.{heads}
use Rattle.batch_model.specs.Events.{ParksRightly}
use Rattle.batch_model.specs.Setting.{sizes_of, stack_on}
use Rattle.batch_model.proofs.Appending.{line_stays, parks_join}
use Rattle.book_log.proofs.Logging.{counted, starts as log_starts}
use Rattle.book_log.specs.Logged.{key_of_request, key_of_started}
use Rattle.book_log.specs.declared.started.Started.{Started}
use Rattle.book_model.specs.Kept.{most_requests}
use Rattle.book_model.specs.Shared.{Shared}
use Rattle.journal_laws.proofs.Ties.{none_drawn, self}
use Rattle.journal_model.specs.Extents.{Extents}
use Rattle.journal_model.specs.Legal.{after_all, after_start, at_first, is_clock, is_open_standing}
use Rattle.journal_model.specs.Legal.{may_start, owes_nothing}
use Rattle.journal_model.specs.State.{State, numbered}
use Rattle.journal_model.specs.declared.answer.Answer.{Answer}
use Rattle.journal_model.specs.declared.event.Event.{Event}
use Rattle.journal_model.specs.declared.event.Event.TheVariants.{Start}
use Rattle.journal_model.specs.declared.state.RequestState.{RequestState}
use Rattle.journal_model.proofs.Folds.{none_first}
use Rattle.journal_model.proofs.Looks.{decide, number_push}
use Rattle.line_laws.specs.Asked.{AreAsked, asked_of_request, asked_of_started}
use Rattle.plan_model.specs.Outline.{Outline}
use Rattle.request_lines.specs.declared.request.Request.{Request}
use Rattle.request_service.specs.Starting.{Starts}
use Rattle.request_service.specs.declared.service.Unserved.{Unserved}
use Rattle.service_laws.proofs.Starting.{next_is_started, next_starts}
use Rattle.service_model.specs.Going.{given_in}
use Rattle.service_model.specs.Staying.{IsSettled, WasStarted}
use Rattle.service_model.specs.Ticking.{BuildsTook}
use Rattle.space_api.specs.declared.given.Given.{Given}
use Rattle.stay_laws.proofs.Others.{as_one}
use Rattle.stay_laws.proofs.Parks.{took_both}
use Rattle.stay_laws.proofs.Settled.{settled_first, settled_started}
use Rattle.stay_laws.proofs.Turning.{start_adds}

-- ---- a book that was just opened

none_there : (rs : List RequestState) (i : ℕ) (r : RequestState) → rs ≡ []
    → numbered rs i ≡ Some r → ⊥
none_there rs i r none is =
    none-some r (sym (ap (λ (xs : List RequestState). numbered xs i) none ∙ none_drawn i) ∙ is)

pub opened_so_far : {C L H : Type 0} (plan : Outline) (requests : List Request)
    (answers : ℕ → Option Answer) (book : Shared C L H)
    → book.sizes ≡ sizes_of (copied_setting plan) requests → book.events ≡ []
    → book.state ≡ at_first book.sizes → book.started ≡ []
    → length requests ≤ most_requests → ((i : ℕ) → answers i ≡ None)
    → IsSoFar plan requests answers 0 book
opened_so_far plan requests answers book sizes events state started few none =
    let count : book.sizes.requests ≡ length requests
    = ap (λ (z : Extents). z.requests) sizes in
    let nothing : length book.started ≡ 0 = ap length started in
    record {
      sizes_are = sizes;
      log = record {
        reached = ap (after_all book.sizes (at_first book.sizes)) events
            ∙ (none_first book.sizes (at_first book.sizes) ∙ sym (ap (λ s. Some s) state));
        keys = ap (map key_of_started) started
            ∙ sym (ap (λ (s : State). map key_of_request s.requests) state);
        few = omega (arith, nothing);
        most = omega (arith, count, few);
      };
      settled = subst (λ s. IsSettled s) (sym state) (settled_first book.sizes);
      asked = subst (λ xs. AreAsked (take (length xs) requests) xs) (sym started) refl;
      lines = λ i answer is. absurd (none-some answer (sym (none i) ∙ is));
      closed = λ i r is shut. absurd (none_there book.state.requests i r
          (ap (λ (s : State). s.requests) state) is);
      parks = λ ok tells. subst (λ es. ParksRightly plan.numbers ok es) (sym events) tt;
      took_is = subst (λ es. BuildsTook plan es 0) (sym events) refl;
    }

-- ---- the next request

shows_clock : (at t : ℕ) → t ≡ at → is_clock (Some at) t ≡ true
shows_clock at t e = ap (λ n. n == at) e ∙ self at

sized_next : (plan : Outline) (requests : List Request) (sizes : Extents) (s : State)
    (n f t : ℕ) → sizes ≡ sizes_of (copied_setting plan) requests
    → owes_nothing s.owed ≡ true → n ≡ length s.requests → n < length requests
    → f < length plan.functions → t ≡ plan.numbers.clock
    → may_start sizes s (n + 1) f t ≡ true
sized_next plan requests sizes s n f t sized owes next there for_one clock =
    let stacks : length sizes.stacks ≡ length plan.functions
    = ap (λ (z : Extents). length z.stacks) sized
    ∙ length-map plan.functions (stack_on plan.layers) in
    let count : sizes.requests ≡ length requests = ap (λ (z : Extents). z.requests) sized in
    next_starts sizes s (n + 1) f t owes (ap (λ k. k + 1) next) (omega (arith, there, count))
    (omega (arith, for_one, stacks))
    (ap (λ (z : Extents). is_clock z.clock t) sized ∙ shows_clock plan.numbers.clock t clock)

pub next_may : {C L H : Type 0} (plan : Outline) (requests : List Request)
    (answers : ℕ → Option Answer) (took : ℕ) (book : Shared C L H) (one : Started)
    → IsSoFar plan requests answers took book → IsNext plan requests one book
    → may_start book.sizes book.state (length book.started + 1) one.function one.given.clock
    ≡ true
next_may plan requests answers took book one so next =
    sized_next plan requests book.sizes book.state (length book.started) one.function
    one.given.clock so.sizes_are so.settled.owes
    (counted book.sizes book.events book.state book.started so.log)
    (slice_get_within requests (length book.started) next.request next.request_is)
    next.for_function next.clock_is

-- ---- what was asked

same_front : {A : Type 0} (x y : A) (xs ys : List A) → x ∷ xs ≡ y ∷ ys → x ≡ y
same_front x y xs ys e = cc

same_rest : {A : Type 0} (x y : A) (xs ys : List A) → x ∷ xs ≡ y ∷ ys → xs ≡ ys
same_rest x y xs ys e = cc

asked_more : (requests : List Request) (started : List Started) (one : Started) (q : Request)
    → AreAsked (take (length started) requests) started
    → slice_get requests (length started) ≡ Some q
    → asked_of_started one ≡ asked_of_request q
    → AreAsked (take (length (started ++ one ∷ [])) requests) (started ++ one ∷ [])
asked_more [] [] one q asked is asks = absurd (none-some q is)
asked_more (r ∷ rs) [] one q asked is asks =
    ap (λ z. z ∷ []) (asks ∙ sym (ap asked_of_request (same_Some r q is)))
asked_more [] (x ∷ xs) one q asked is asks = absurd (none-some q is)
asked_more (r ∷ rs) (x ∷ xs) one q asked is asks =
    heads (asked_of_started x) (asked_of_request r) (map asked_of_started (xs ++ one ∷ []))
    (map asked_of_request (take (length (xs ++ one ∷ [])) rs))
    (same_front (asked_of_started x) (asked_of_request r) (map asked_of_started xs)
    (map asked_of_request (take (length xs) rs)) asked)
    (asked_more rs xs one q (same_rest (asked_of_started x) (asked_of_request r)
    (map asked_of_started xs) (map asked_of_request (take (length xs) rs)) asked) is asks)

-- ---- what was given

given_at : (started : List Started) (one : Started) (i : ℕ) (given : Given)
    (o : Option Started) → numbered started i ≡ o
    → option_map (λ (x : Started). x.given) o ≡ Some given
    → given_in (started ++ one ∷ []) i ≡ Some given
given_at started one i given None e is = absurd (none-some given is)
given_at started one i given (Some x) e is =
    ap (option_map (λ (x : Started). x.given)) (number_push started i one x e) ∙ is

-- what was given stays given where one more is started
pub given_more : (started : List Started) (one : Started) (i : ℕ) (given : Given)
    → given_in started i ≡ Some given → given_in (started ++ one ∷ []) i ≡ Some given
given_more started one i given is =
    given_at started one i given (numbered started i) refl is

-- ---- a request that is started

is_shut : (i f k : ℕ) (s t : State) (j : ℕ) (r : RequestState) → WasStarted i f k s t → j ≡ i
    → numbered t.requests j ≡ Some r → is_open_standing r.standing ≡ false → ⊥
is_shut i f k s t j r was e is closed =
    let same = same_Some was.one r (sym was.one_is
    ∙ (sym (ap (λ n. numbered t.requests n) e) ∙ is)) in
    let z : true ≡ false = sym (ap is_open_standing was.stands)
    ∙ (ap (λ (q : RequestState). is_open_standing q.standing) same ∙ closed) in cc

module _ {C L H : Type 0} (plan : Outline) (requests : List Request)
    (answers : ℕ → Option Answer) (took : ℕ) (one : Started) (old : Shared C L H)
    (so : IsSoFar plan requests answers took old) (next : IsNext plan requests one old) where
  abbrev event : Event
  event = Start (length old.started + 1) one.function one.given.clock

  abbrev state : State
  state = after_start old.state one.function one.given.clock

  may : may_start old.sizes old.state (length old.started + 1) one.function one.given.clock
      ≡ true
  may = next_may plan requests answers took old one so next

  on : after_all old.sizes old.state (event ∷ []) ≡ Some state
  on = as_one old.sizes old.state event state (next_is_started old.sizes old.state
      (length old.started + 1) one.function one.given.clock may)

  was : WasStarted (length old.started + 1) one.function one.given.clock old.state state
  was = start_adds old.sizes old.state (length old.started + 1) one.function one.given.clock may

  closed_at : (j : ℕ) (r : RequestState) → numbered state.requests j ≡ Some r
      → is_open_standing r.standing ≡ false
      → (j ≡ length old.started + 1) ⊎ (j ≢ length old.started + 1) → IsSome (answers j)
  closed_at j r is closed (inl e) = absurd (is_shut (length old.started + 1) one.function
      one.given.clock old.state state j r was e is closed)
  closed_at j r is closed (inr d) = so.closed j r (sym (was.others j d) ∙ is) closed

  started_at : IsSoFar plan requests answers took (record old {
    events = old.events ++ event ∷ [];
    state = state;
    started = old.started ++ one ∷ [];
  })
  started_at = record {
    sizes_are = so.sizes_are;
    log = (log_starts old.sizes old.events old.state old.started one so.log may).logged;
    settled = settled_started old.sizes old.state (length old.started + 1) one.function
        one.given.clock so.settled may;
    asked = asked_more requests old.started one next.request so.asked next.request_is next.asks;
    lines = λ j answer is. line_stays plan old.sizes old.events (event ∷ []) old.state state
        (given_in old.started) (given_in (old.started ++ one ∷ [])) j answer so.log.reached on
        (λ k given there. given_more old.started one k given there) (so.lines j answer is);
    closed = λ j r is closed. closed_at j r is closed (decide j (length old.started + 1));
    parks = λ ok tells. parks_join plan.numbers ok old.events (event ∷ [])
        (so.parks ok tells) tt;
    took_is = subst (λ n. BuildsTook plan (old.events ++ event ∷ []) n) (omega arith)
        (took_both plan old.events (event ∷ []) took 0 so.took_is refl);
  }

pub started_so_far : {C L H : Type 0} (plan : Outline) (requests : List Request)
    (answers : ℕ → Option Answer) (took : ℕ) (one : Started) (request : Unserved)
    (old new : Shared C L H) → IsSoFar plan requests answers took old
    → IsNext plan requests one old → Starts one request old new
    → IsSoFar plan requests answers took new
started_so_far plan requests answers took one request old new so next starts =
    subst (λ book. IsSoFar plan requests answers took book) (sym starts.new_is)
    (started_at plan requests answers took one old so next)
