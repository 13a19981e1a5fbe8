-- What a service keeps while others take their turns.
use Rattle.std.proofs.Common.{◌≡◌, ◌≢◌, ℕ, ◌+◌, true, List, [], ◌∷◌, ◌++◌, length, map, Option}
use Rattle.std.proofs.Common.{Some, refl, sym, ◌∙◌, ap, subst, arith}
use Rattle.batch_laws.specs.SoFar.{IsNext, IsSoFar}
use Rattle.batch_laws.proofs.Numbered.{heads, within}
use Rattle.batch_laws.proofs.Starts.{given_more, next_may}
use Rattle.batch_model.specs.Replies.{AreGiven}
use Rattle.book_log.proofs.Logging.{counted}
use Rattle.book_log.specs.declared.started.Started.{Started}
use Rattle.book_model.specs.Kept.{IsNoted, givens}
use Rattle.book_model.specs.Shared.{Shared}
use Rattle.context_uc.specs.Views.{ContextView}
use Rattle.deployer.specs.Hosting.{Hosts, Telling}
use Rattle.hyper_calls.specs.Exchange.{Exchange}
use Rattle.journal_laws.proofs.Naming.{IsOpenAt, open_is, waiting_is}
use Rattle.journal_laws.proofs.Numbers.{pushed_other}
use Rattle.journal_model.specs.Legal as legal
use Rattle.journal_model.specs.Legal.{after_start, is_open, is_waiting, request_function}
use Rattle.journal_model.specs.Reads.{served, service_of, service_of_one}
use Rattle.journal_model.specs.State.{State, numbered}
use Rattle.journal_model.specs.declared.answer.Answer.{Answer}
use Rattle.journal_model.specs.declared.event.Event.{Event}
use Rattle.journal_model.specs.declared.event.Event.TheVariants.{Start}
use Rattle.journal_model.specs.declared.state.ContextState.{ContextState}
use Rattle.plan_model.specs.Outline.{Outline}
use Rattle.request_lines.specs.declared.request.Request.{Request}
use Rattle.request_service.specs.Starting.{Starts}
use Rattle.request_service.specs.Turns.{Closes, Goes}
use Rattle.request_service.specs.UnderWay.{IsAt, IsUnderWay, Waits}
use Rattle.request_service.specs.declared.service.Service.{Service}
use Rattle.request_service.specs.declared.service.Unserved.{Unserved}
use Rattle.request_service.specs.declared.service.Work.{Work}
use Rattle.request_service.specs.declared.service.Work.TheVariants.{Deployed, Between}
use Rattle.request_service.specs.declared.service.Work.TheVariants.{Layer, Request as OfRequest}
use Rattle.service_laws.proofs.Looking.{open_so}
use Rattle.service_laws.specs.Serving.{IsServing}
use Rattle.service_model.specs.Going.{WentBy, given_in}
use Rattle.service_model.specs.Staying.{LeavesOthers, Stays}
use Rattle.space_api.specs.Told.{ParkedContext}
use Rattle.space_api.specs.declared.given.Given.{Given}
use Rattle.stay_laws.proofs.Leaves.{started_leaves}

-- ---- what was given

abbrev IsGivenToo : (one two : List Started) → Type 0
IsGivenToo one two =
    (k : ℕ) (given : Given) → given_in one k ≡ Some given → given_in two k ≡ Some given

same_front : {A : Type 0} (x y : A) (xs ys : List A) → x ∷ xs ≡ y ∷ ys → x ≡ y
same_front x y xs ys e = cc

same_rest : {A : Type 0} (x y : A) (xs ys : List A) → x ∷ xs ≡ y ∷ ys → xs ≡ ys
same_rest x y xs ys e = cc

given_still : (one two : List Started) (numbers : List ℕ) (before : List Given)
    → IsGivenToo one two → AreGiven (given_in one) numbers before
    → AreGiven (given_in two) numbers before
given_still one two [] [] too h = refl
given_still one two [] (x ∷ xs) too h = cc
given_still one two (j ∷ js) [] too h = cc
given_still one two (j ∷ js) (x ∷ xs) too h =
    heads (Some x) (given_in two j) (map Some xs) (map (given_in two) js)
    (sym (too j x (sym (same_front (Some x) (given_in one j) (map Some xs)
    (map (given_in one) js) h))))
    (given_still one two js xs too (same_rest (Some x) (given_in one j) (map Some xs)
    (map (given_in one) js) h))

order_still : (one two : List Started) (numbers : List ℕ) (before : List Given)
    → IsGivenToo one two → map Some before ≡ givens one numbers
    → map Some before ≡ givens two numbers
unfolding givens
order_still one two numbers before too h = given_still one two numbers before too h

noted_still : (state : ContextState) (c : ℕ) (one two : List Started) (was now : List ℕ)
    (told : ParkedContext) → IsGivenToo one two → now ≡ was
    → IsNoted state c (givens one was) told → IsNoted state c (givens two now) told
noted_still state c one two was now told too same h = record {
  number = h.number;
  for_function = h.for_function;
  place = h.place;
  bare = h.bare;
  in_order = order_still one two was told.served too h.in_order
      ∙ ap (givens two) (sym same);
}

-- ---- a service

module _ {S L H : Type 0} (plan : Outline) (telling : Telling S) (ports : Exchange) (j : ℕ)
    (old new : Shared (ContextView S) L H)
    (stay : (c : ℕ) (x : ContextState) → IsServing old.state j c x
    → Stays j c x old.state new.state) (too : IsGivenToo old.started new.started) where
  hosts_still : (c : ContextView S) → Hosts plan telling j c old → Hosts plan telling j c new
  hosts_still c h = let k = stay c.id h.state h.serving in record {
    in_service = h.in_service;
    state = h.state;
    serving = k.serving;
    function_is = k.function ∙ h.function_is;
    noted = noted_still h.state c.id old.started new.started (served old.state c.id)
        (served new.state c.id) _ too k.served h.noted;
    loose = h.loose;
  }

  at_still : (work : Work (ContextView S) S) → IsAt plan telling ports j work old
      → IsAt plan telling ports j work new
  at_still (Deployed function d) h = let k = stay d.context _ h.drawn.serving in record {
    fresh = h.fresh;
    drawn = record {
      serving = k.serving;
      function_is = k.function ∙ h.drawn.function_is;
      none_served = k.served ∙ h.drawn.none_served;
    };
  }
  at_still (Between c) h = hosts_still c h
  at_still (Layer c run) h = record {
    hosts = hosts_still (record c { still = true }) h.hosts;
    on_way = h.on_way;
    under_way = h.under_way;
  }
  at_still (OfRequest c run) h = record {
    hosts = hosts_still (record c { still = true }) h.hosts;
    under_way = h.under_way;
    own = too j run.given h.own;
  }

  known_still : (work : Work (ContextView S) S) → IsAt plan telling ports j work old
      → service_of new.state j ≡ service_of old.state j
  known_still (Deployed function d) h = (stay d.context _ h.drawn.serving).service
  known_still (Between c) h = (stay c.id h.state h.serving).service
  known_still (Layer c run) h = (stay c.id h.hosts.state h.hosts.serving).service
  known_still (OfRequest c run) h = (stay c.id h.hosts.state h.hosts.serving).service

module _ {S L H : Type 0} (plan : Outline) (telling : Telling S) (ports : Exchange)
    (service : Service (ContextView S) S) where
  way_still : (i : ℕ) (old new : Shared (ContextView S) L H)
      → IsUnderWay plan telling ports service old → service.origin.i ≢ i
      → LeavesOthers i old.state new.state → IsGivenToo old.started new.started
      → IsUnderWay plan telling ports service new
  way_still i old new h d leaves too = record {
    known = known_still plan telling ports service.origin.i old new
        (λ c x v. leaves service.origin.i c x d v) too service.work h.at_it ∙ h.known;
    at_it = at_still plan telling ports service.origin.i old new
        (λ c x v. leaves service.origin.i c x d v) too service.work h.at_it;
  }

  went_too : (events : List Event) (old new : Shared (ContextView S) L H)
      → WentBy events old new → IsGivenToo old.started new.started
  went_too events old new went = λ k given is.
      ap (λ xs. given_in xs k) went.started_stay ∙ is

  pub gone_still : (i took : ℕ) (events : List Event) (old new : Shared (ContextView S) L H)
      → IsUnderWay plan telling ports service old → service.origin.i ≢ i
      → Goes plan i events took old new → IsUnderWay plan telling ports service new
  gone_still i took events old new h d goes =
      way_still i old new h d goes.others (went_too events old new goes.went)

  pub closed_still : (i : ℕ) (answer : Answer) (events : List Event)
      (old new : Shared (ContextView S) L H) → IsUnderWay plan telling ports service old
      → service.origin.i ≢ i → Closes plan i answer events old new
      → IsUnderWay plan telling ports service new
  closed_still i answer events old new h d closes =
      way_still i old new h d closes.others (went_too events old new closes.went)

  open_at : (j : ℕ) (work : Work (ContextView S) S) (book : Shared (ContextView S) L H)
      → IsAt plan telling ports j work book → is_open book.state j ≡ true
  open_at j (Deployed function d) book h = h.drawn.serving.work.open_one
  open_at j (Between c) book h = h.serving.work.open_one
  open_at j (Layer c run) book h = h.hosts.serving.work.open_one
  open_at j (OfRequest c run) book h = h.hosts.serving.work.open_one

  pub way_open : (book : Shared (ContextView S) L H)
      → IsUnderWay plan telling ports service book → is_open book.state service.origin.i ≡ true
  way_open book h = open_at service.origin.i service.work book h.at_it

-- an open request is not the next one
not_next : (s : State) (j : ℕ) (o : IsOpenAt s.requests j) → j ≢ length s.requests + 1
not_next s j o e =
    let w = within s.requests j o.one o.entry in
    let next = w.next in
    let there = w.there in
    absurd (omega (arith, e, next, there))

module _ {S L H : Type 0} (plan : Outline) (telling : Telling S) (ports : Exchange)
    (service : Service (ContextView S) S) (requests : List Request)
    (answers : ℕ → Option Answer) (took : ℕ) (one : Started) (request : Unserved)
    (old new : Shared (ContextView S) L H) where
  started_at : IsUnderWay plan telling ports service old
      → IsSoFar plan requests answers took old → IsNext plan requests one old
      → IsUnderWay plan telling ports service (record old {
        events = old.events
            ++ Start (length old.started + 1) one.function one.given.clock ∷ [];
        state = after_start old.state one.function one.given.clock;
        started = old.started ++ one ∷ [];
      })
  started_at h so next =
      let count = counted old.sizes old.events old.state old.started so.log in
      let other = not_next old.state service.origin.i
      (open_is old.state service.origin.i (way_open plan telling ports service old h)) in
      way_still plan telling ports service (length old.started + 1) old _ h
      (λ e. other (e ∙ ap (λ n. n + 1) count))
      (started_leaves old.sizes old.events old.state (length old.started + 1) one.function
      one.given.clock so.log.reached (next_may plan requests answers took old one so next))
      (λ k given is. given_more old.started one k given is)

  pub started_still : IsUnderWay plan telling ports service old
      → IsSoFar plan requests answers took old → IsNext plan requests one old
      → Starts one request old new → IsUnderWay plan telling ports service new
  started_still h so next starts =
      subst (λ book. IsUnderWay plan telling ports service book) (sym starts.new_is)
      (started_at h so next)

-- ---- a request that waits

waiting_so : (s t : State) (j : ℕ) → numbered t.requests j ≡ numbered s.requests j
    → is_waiting t j ≡ is_waiting s j
unfolding is_waiting
waiting_so s t j same = ap legal.is_waiting_one same

function_so : (s t : State) (j : ℕ) → numbered t.requests j ≡ numbered s.requests j
    → request_function t j ≡ request_function s j
unfolding request_function
function_so s t j same = ap legal.function_of_one same

service_so : (s t : State) (j : ℕ) → numbered t.requests j ≡ numbered s.requests j
    → service_of t j ≡ service_of s j
unfolding service_of
service_so s t j same = ap service_of_one same

start_leaves : (s : State) (j f k : ℕ) → j ≢ length s.requests + 1
    → numbered (after_start s f k).requests j ≡ numbered s.requests j
unfolding after_start
start_leaves s j f k d = pushed_other s.requests j _ d

waits_still : {C L H : Type 0} (waiting : Unserved) (old new : Shared C L H)
    → numbered new.state.requests waiting.i ≡ numbered old.state.requests waiting.i
    → Waits waiting old → Waits waiting new
waits_still waiting old new same h = record {
  waiting = waiting_so old.state new.state waiting.i same ∙ h.waiting;
  for_function = function_so old.state new.state waiting.i same ∙ h.for_function;
  known = service_so old.state new.state waiting.i same ∙ h.known;
}

module _ {S L H : Type 0} where
  pub gone_waits : (plan : Outline) (waiting : Unserved) (i took : ℕ) (events : List Event)
      (old new : Shared (ContextView S) L H) → Waits waiting old → waiting.i ≢ i
      → Goes plan i events took old new → Waits waiting new
  gone_waits plan waiting i took events old new h d goes =
      waits_still waiting old new (goes.turns.others waiting.i d) h

  pub closed_waits : (plan : Outline) (waiting : Unserved) (i : ℕ) (answer : Answer)
      (events : List Event) (old new : Shared (ContextView S) L H) → Waits waiting old
      → waiting.i ≢ i → Closes plan i answer events old new → Waits waiting new
  closed_waits plan waiting i answer events old new h d closes =
      waits_still waiting old new (closes.turns.others waiting.i d) h

  pub started_waits : (waiting request : Unserved) (one : Started)
      (old new : Shared (ContextView S) L H) → Waits waiting old → Starts one request old new
      → Waits waiting new
  started_waits waiting request one old new h starts =
      waits_still waiting old new
      (ap (λ (book : Shared (ContextView S) L H). numbered book.state.requests waiting.i)
      starts.new_is
      ∙ start_leaves old.state waiting.i one.function one.given.clock
      (not_next old.state waiting.i (waiting_is old.state waiting.i h.waiting))) h

  pub waits_open : (waiting : Unserved) (book : Shared (ContextView S) L H)
      → Waits waiting book → is_open book.state waiting.i ≡ true
  waits_open waiting book h = let o = waiting_is book.state waiting.i h.waiting in
      open_so book.state waiting.i o.one o.entry ∙ o.stands
