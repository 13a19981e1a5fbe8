-- A batch in which each request has its line.
use Rattle.std.proofs.Common.{◌≡◌, ℕ, ◌+◌, ◌≤◌, ◌<◌, false, zero, suc, List, [], ◌∷◌}
use Rattle.std.proofs.Common.{length, Option, Some, refl, sym, ◌∙◌, ap, subst, arith}
use Rattle.std.proofs.lemmas.List.{take_all}
use Rattle.std.proofs.lemmas.Option.{same_Some}
use Rattle.std.specs.List.{slice_get}
use Rattle.batch_laws.specs.SoFar.{AreInOrder, IsSoFar, copied_setting}
use Rattle.batch_laws.proofs.Numbered.{within}
use Rattle.batch_laws.proofs.Steps.{line_closed}
use Rattle.batch_model.specs.Events.{ended_ok, ok_in}
use Rattle.batch_model.specs.Fits.{IsRight}
use Rattle.batch_model.specs.Replies.{AreLinesFrom, IsLineOf}
use Rattle.batch_model.specs.Setting.{given_of, sizes_of}
use Rattle.batch_model.proofs.Appending.{line_stays}
use Rattle.book_log.proofs.Logging.{counted}
use Rattle.book_model.specs.Shared.{Shared}
use Rattle.journal_model.specs.Extents.{Extents}
use Rattle.journal_model.specs.Legal.{after_all, at_first, is_open_standing}
use Rattle.journal_model.specs.State.{State, numbered}
use Rattle.journal_model.specs.declared.answer.Answer.{Answer}
use Rattle.journal_model.specs.declared.state.RequestState.{RequestState}
use Rattle.journal_model.proofs.Folds.{none_first}
use Rattle.line_laws.proofs.Right.{started_are_given, started_are_these}
use Rattle.line_laws.proofs.Settled.{number_next, settled_is_whole}
use Rattle.line_laws.specs.Asked.{AreAsked}
use Rattle.plan_model.specs.Outline.{Outline}
use Rattle.request_lines.specs.declared.request.Request.{Request}
use Rattle.service_model.specs.Going.{given_in}
use Rattle.space_api.specs.declared.given.Given.{Given}
use Rattle.stay_laws.proofs.Parks.{took_rightly}

-- ---- lists of lines

pub record Stands {A : Type 0} (xs : List A) (i : ℕ) : Type 0 where
  pub one : A
  pub is : numbered xs i ≡ Some one

some_at : {A : Type 0} (xs : List A) (k : ℕ) → k < length xs
    → (x : A) × (slice_get xs k ≡ Some x)
some_at [] k h = absurd (omega (arith, h))
some_at (x ∷ xs) zero h = (x, refl)
some_at (x ∷ xs) (suc k) h = some_at xs k (omega (arith, h))

-- under each number to the length stands something
pub stands_next : {A : Type 0} (xs : List A) (k : ℕ) → k < length xs → Stands xs (k + 1)
stands_next xs k h = let s = some_at xs k h in
    record { one = s.0; is = number_next xs k ∙ s.1 }

stands_same : {A : Type 0} (xs : List A) (i k : ℕ) → i ≡ k + 1 → k < length xs → Stands xs i
stands_same xs i k e h = subst (λ n. Stands xs n) (sym e) (stands_next xs k h)

lines_from : (plan : Outline) (given : ℕ → Option Given) (s : State) (n : ℕ)
    (lines : List Answer)
    → ((k : ℕ) (a : Answer) → slice_get lines k ≡ Some a → IsLineOf plan given s (n + k) a)
    → AreLinesFrom plan given s n lines
lines_from plan given s n [] h = tt
lines_from plan given s n (a ∷ lines) h = (
  subst (λ m. IsLineOf plan given s m a) (omega arith) (h 0 a refl),
  lines_from plan given s (n + 1) lines
      (λ k b is. subst (λ m. IsLineOf plan given s m b) (omega arith) (h (suc k) b is)),
)

pub listed : (requests : List Request) (lines : List Answer) → length lines ≡ length requests
    → AreInOrder requests (numbered lines) lines
listed requests lines count = record { count = count; each = λ i answer is. is }

-- ---- the batch

module _ {C L H : Type 0} (plan : Outline) (requests : List Request)
    (answers : ℕ → Option Answer) (took : ℕ) (lines : List Answer) (book : Shared C L H)
    (so : IsSoFar plan requests answers took book)
    (order : AreInOrder requests answers lines) where
  -- each line of the list is that of its request
  line_of : (i : ℕ) (a : Answer) → numbered lines i ≡ Some a
      → IsLineOf plan (given_in book.started) book.state i a
  line_of i a is = so.lines i a (order.each i a is)

  -- as many requests as lines were started
  at_least : (n : ℕ) → n ≤ length lines → n ≤ length book.state.requests
  at_least zero h = omega arith
  at_least (suc k) h =
      let one = stands_next lines k (omega (arith, h)) in
      let line = line_of (k + 1) one.one one.is in
      let w = within book.state.requests (k + 1) line.request line.request_is in
      let next = w.next in
      let there = w.there in
      omega (arith, next, there)

  pub all_started : length book.state.requests ≡ length requests
  all_started =
      let least = at_least (length lines) (omega arith) in
      let count = order.count in
      let few = so.log.few in
      let same = counted book.sizes book.events book.state book.started so.log in
      let most : book.sizes.requests ≡ length requests
      = ap (λ (z : Extents). z.requests) so.sizes_are in
      omega (arith, least, count, few, same, most)

  all_asked : AreAsked requests book.started
  all_asked =
      let same = counted book.sizes book.events book.state book.started so.log in
      let all = all_started in
      let long : length requests ≤ length book.started = omega (arith, same, all) in
      subst (λ qs. AreAsked qs book.started) (take_all (length book.started) requests long)
      so.asked

  -- where something stands under the number of a request, its line stands in the list
  has_line : (i : ℕ) (r : RequestState) → numbered book.state.requests i ≡ Some r
      → Stands lines i
  has_line i r is =
      let w = within book.state.requests i r is in
      let there = w.there in
      let all = all_started in
      let count = order.count in
      stands_same lines i w.k w.next (omega (arith, there, all, count))

  all_closed : (i : ℕ) (r : RequestState) → numbered book.state.requests i ≡ Some r
      → is_open_standing r.standing ≡ false
  all_closed i r is =
      let one = has_line i r is in
      let line = line_of i one.one one.is in
      let same = same_Some line.request r (sym line.request_is ∙ is) in
      ap (λ (q : RequestState). is_open_standing q.standing) (sym same)
      ∙ line_closed plan (given_in book.started) book.state i one.one line

  -- what stands in the list is the line that there is
  pub in_list : (i : ℕ) (a : Answer) → answers i ≡ Some a → numbered lines i ≡ Some a
  in_list i a is =
      let line = so.lines i a is in
      let one = has_line i line.request line.request_is in
      one.is ∙ (sym (order.each i one.one one.is) ∙ is)

  given_same : (i : ℕ) → given_in book.started i ≡ given_of requests book.state i
  given_same i = started_are_given book.sizes book.events book.state book.started requests
      so.log all_asked i

  reached : after_all (sizes_of (copied_setting plan) requests)
      (at_first (sizes_of (copied_setting plan) requests)) book.events ≡ Some book.state
  reached = subst (λ z. after_all z (at_first z) book.events ≡ Some book.state) so.sizes_are
      so.log.reached

  line_at : (k : ℕ) (a : Answer) → slice_get lines k ≡ Some a
      → IsLineOf plan (given_of requests book.state) book.state (1 + k) a
  line_at k a is =
      let here : numbered lines (1 + k) ≡ Some a
      = ap (λ n. numbered lines n) (omega arith) ∙ (number_next lines k ∙ is) in
      line_stays plan book.sizes book.events [] book.state book.state (given_in book.started)
      (given_of requests book.state) (1 + k) a so.log.reached
      (none_first book.sizes book.state) (λ j one given. sym (given_same j) ∙ given)
      (line_of (1 + k) a here)

  pub batch_is_right : IsRight (copied_setting plan) requests lines book.events book.state
  batch_is_right =
      let all = all_started in
      let count = order.count in
      record {
        journal = record {
          reached = reached;
          nothing_owed = so.settled.owes;
          whole = settled_is_whole book.state so.settled all_closed;
          started = started_are_these book.sizes book.events book.state book.started requests
              so.log all_asked;
        };
        lines = record {
          count = omega (arith, all, count);
          lines = lines_from plan (given_of requests book.state) book.state 1 lines line_at;
        };
        parks = so.parks (ok_in lines) (λ i a is. ap ended_ok (in_list i a is));
        builds = took_rightly plan book.events took so.took_is;
        frames = refl;
      }
