-- What is said of a batch as far as its journal goes stays when the journal grows.
use Rattle.std.proofs.Common.{◌≡◌, ℕ, ◌+◌, ◌-◌, ◌==◌, Bool, true, false, if◌then◌else◌, List, []}
use Rattle.std.proofs.Common.{◌∷◌, ◌++◌, length, map, Option, None, Some, refl, sym, ◌∙◌, ap}
use Rattle.std.proofs.Common.{subst, arith, cond}
use Rattle.std.proofs.lemmas.Bool.Decides.{nat_tests}
use Rattle.std.proofs.lemmas.List.{append_assoc, append-nil}
use Rattle.std.proofs.lemmas.Option.{none-some}
use Rattle.std.specs.List.{slice_get}
use Rattle.journal_laws.proofs.Early.{earlier_stays}
use Rattle.journal_laws.proofs.Naming.{closed_always}
use Rattle.journal_model.specs.Extents.{Extents}
use Rattle.journal_model.specs.State.{State, numbered}
use Rattle.journal_model.specs.Legal.{after_all, at_first, is_open_standing, given_to, given_to_one}
use Rattle.journal_model.specs.Reads.{service_of, service_of_one, earlier, earlier_one}
use Rattle.journal_model.specs.Reads.{earlier_given}
use Rattle.journal_model.specs.declared.answer.Answer.{Answer as AnswerLine}
use Rattle.journal_model.specs.declared.event.Event.{Event}
use Rattle.journal_model.specs.declared.event.Event.TheVariants.{Start, Take, Deploy, Refill}
use Rattle.journal_model.specs.declared.event.Event.TheVariants.{Built, Keep, Dup, Drop, Evict}
use Rattle.journal_model.specs.declared.event.Event.TheVariants.{Park, End, Back, Refuse, Want}
use Rattle.journal_model.specs.declared.event.Event.TheVariants.{Answer}
use Rattle.journal_model.specs.declared.state.RequestState.{RequestState}
use Rattle.journal_model.specs.declared.state.Standing.{Standing}
use Rattle.journal_model.specs.declared.state.Standing.TheVariants.{Open, Answered, Refused}
use Rattle.journal_model.specs.declared.state.Standing.TheVariants.{Wanted}
use Rattle.plan_model.specs.Outline.{Outline}
use Rattle.plan_model.specs.declared.numbers.Numbers.{Numbers}
use Rattle.space_api.specs.declared.given.Given.{Given}
use Rattle.batch_model.specs.Events.{is_ok, ended_ok, ok_in, is_parked_by, is_to_park}
use Rattle.batch_model.specs.Events.{ParksRightly, ParksSoFar, BuildsRightly}
use Rattle.batch_model.specs.Replies.{Shown, shown_in, AreGiven, ShowsClosed, IsLineOf}
use Rattle.batch_model.specs.Replies.{AreLinesFrom}

-- ---- events

of_either : (test b x : Bool) (y z : Option Bool) → (y ≡ Some b → z ≡ Some b)
    → (if test then Some x else y) ≡ Some b → (if test then Some x else z) ≡ Some b
of_either true b x y z on h = h
of_either false b x y z on h = on h

parked_more : (c : ℕ) (es more : List Event) (b : Bool) → is_parked_by c es ≡ Some b
    → is_parked_by c (es ++ more) ≡ Some b
unfolding is_parked_by
parked_more c [] more b so = absurd (none-some b so)
parked_more c (Start i f t ∷ es) more b so = parked_more c es more b so
parked_more c (Take d i ∷ es) more b so = parked_more c es more b so
parked_more c (Deploy d k i n ∷ es) more b so = parked_more c es more b so
parked_more c (Refill d h n ∷ es) more b so = parked_more c es more b so
parked_more c (Built d k n ∷ es) more b so = parked_more c es more b so
parked_more c (Keep k ∷ es) more b so = parked_more c es more b so
parked_more c (Dup k ∷ es) more b so = parked_more c es more b so
parked_more c (Drop k ∷ es) more b so = parked_more c es more b so
parked_more c (Evict d ∷ es) more b so = parked_more c es more b so
parked_more c (Park d ∷ es) more b so = of_either (d == c) b true (is_parked_by c es)
    (is_parked_by c (es ++ more)) (parked_more c es more b) so
parked_more c (End d ∷ es) more b so = of_either (d == c) b false (is_parked_by c es)
    (is_parked_by c (es ++ more)) (parked_more c es more b) so
parked_more c (Back n ∷ es) more b so = parked_more c es more b so
parked_more c (Refuse i ∷ es) more b so = parked_more c es more b so
parked_more c (Want i ∷ es) more b so = parked_more c es more b so
parked_more c (Answer i d u ∷ es) more b so = parked_more c es more b so

-- where each of two journals parks rightly, so do both in a row
pub parks_join : (numbers : Numbers) (ok : ℕ → Bool) (es more : List Event)
    → ParksRightly numbers ok es → ParksRightly numbers ok more
    → ParksRightly numbers ok (es ++ more)
parks_join numbers ok [] more p q = q
parks_join numbers ok (Start i f t ∷ es) more p q = parks_join numbers ok es more p q
parks_join numbers ok (Take d i ∷ es) more p q = parks_join numbers ok es more p q
parks_join numbers ok (Deploy d k i n ∷ es) more p q = parks_join numbers ok es more p q
parks_join numbers ok (Refill d h n ∷ es) more p q = parks_join numbers ok es more p q
parks_join numbers ok (Built d k n ∷ es) more p q = parks_join numbers ok es more p q
parks_join numbers ok (Keep k ∷ es) more p q = parks_join numbers ok es more p q
parks_join numbers ok (Dup k ∷ es) more p q = parks_join numbers ok es more p q
parks_join numbers ok (Drop k ∷ es) more p q = parks_join numbers ok es more p q
parks_join numbers ok (Evict d ∷ es) more p q = parks_join numbers ok es more p q
parks_join numbers ok (Park d ∷ es) more p q = parks_join numbers ok es more p q
parks_join numbers ok (End d ∷ es) more p q = parks_join numbers ok es more p q
parks_join numbers ok (Back n ∷ es) more p q = parks_join numbers ok es more p q
parks_join numbers ok (Refuse i ∷ es) more p q = parks_join numbers ok es more p q
parks_join numbers ok (Want i ∷ es) more p q = parks_join numbers ok es more p q
parks_join numbers ok (Answer i d u ∷ es) more (p, ps) q =
    (parked_more d es more (is_to_park numbers ok i u) p, parks_join numbers ok es more ps q)

-- ---- the next line

at_end : {A : Type 0} (xs : List A) (x : A) (more : List A)
    → slice_get ((xs ++ x ∷ []) ++ more) (length xs) ≡ Some x
at_end [] x more = refl
at_end (y ∷ ys) x more = at_end ys x more

same : (a b : ℕ) → (a == b) ≡ true → a ≡ b
same a b h = grind (arith, nat_tests)

end_push : {A : Type 0} (test : Bool) (xs : List A) (x : A) (more : List A)
    → ((length xs + 1) == 0) ≡ test
    → cond test None (slice_get ((xs ++ x ∷ []) ++ more) (length xs + 1 - 1)) ≡ Some x
end_push true xs x more e =
    let h : length xs + 1 ≡ 0 = same (length xs + 1) 0 e in absurd (omega arith)
end_push false xs x more e =
    ap (λ k. slice_get ((xs ++ x ∷ []) ++ more) k) (omega arith) ∙ at_end xs x more

numbered_end : {A : Type 0} (xs : List A) (x : A) (more : List A)
    → numbered ((xs ++ x ∷ []) ++ more) (length xs + 1) ≡ Some x
unfolding numbered
numbered_end xs x more = end_push ((length xs + 1) == 0) xs x more refl

-- the line that is added says how the next request ended, whatever lines come
pub ok_next : (answers : List AnswerLine) (answer : AnswerLine) (more : List AnswerLine)
    → ok_in ((answers ++ answer ∷ []) ++ more) (length answers + 1) ≡ is_ok answer.end
ok_next answers answer more = ap ended_ok (numbered_end answers answer more)

-- with the next line and the events that come with it
pub parks_next : (numbers : Numbers) (answers : List AnswerLine) (answer : AnswerLine)
    (es later : List Event) → ParksSoFar numbers answers es
    → ((more : List AnswerLine)
    → ParksRightly numbers (ok_in ((answers ++ answer ∷ []) ++ more)) later)
    → ParksSoFar numbers (answers ++ answer ∷ []) (es ++ later)
parks_next numbers answers answer es later p q more =
    parks_join numbers (ok_in ((answers ++ answer ∷ []) ++ more)) es later
    (subst (λ lines. ParksRightly numbers (ok_in lines) es)
    (sym (append_assoc answers (answer ∷ []) more)) (p (answer ∷ more)))
    (q more)

-- where no line comes any more
pub parks_whole : (numbers : Numbers) (answers : List AnswerLine) (es : List Event)
    → ParksSoFar numbers answers es → ParksRightly numbers (ok_in answers) es
parks_whole numbers answers es p =
    subst (λ lines. ParksRightly numbers (ok_in lines) es) (append-nil answers) (p [])

-- ---- layers

-- where the layers of each of two journals are built rightly, so are those of both in a row
pub builds_join : (plan : Outline) (es more : List Event) → BuildsRightly plan es
    → BuildsRightly plan more → BuildsRightly plan (es ++ more)
builds_join plan [] more p q = q
builds_join plan (Start i f t ∷ es) more p q = builds_join plan es more p q
builds_join plan (Take d i ∷ es) more p q = builds_join plan es more p q
builds_join plan (Deploy d k i n ∷ es) more p q = builds_join plan es more p q
builds_join plan (Refill d h n ∷ es) more p q = builds_join plan es more p q
builds_join plan (Built d k n ∷ es) more (p, ps) q = (p, builds_join plan es more ps q)
builds_join plan (Keep k ∷ es) more p q = builds_join plan es more p q
builds_join plan (Dup k ∷ es) more p q = builds_join plan es more p q
builds_join plan (Drop k ∷ es) more p q = builds_join plan es more p q
builds_join plan (Evict d ∷ es) more p q = builds_join plan es more p q
builds_join plan (Park d ∷ es) more p q = builds_join plan es more p q
builds_join plan (End d ∷ es) more p q = builds_join plan es more p q
builds_join plan (Back n ∷ es) more p q = builds_join plan es more p q
builds_join plan (Refuse i ∷ es) more p q = builds_join plan es more p q
builds_join plan (Want i ∷ es) more p q = builds_join plan es more p q
builds_join plan (Answer i d u ∷ es) more p q = builds_join plan es more p q

-- ---- lines

-- what is given stays given
abbrev pub IsGivenToo : (given later : ℕ → Option Given) → Type 0
IsGivenToo given later = (j : ℕ) (one : Given) → given j ≡ Some one → later j ≡ Some one

same_rest : {A : Type 0} (x y : A) (xs ys : List A) → x ∷ xs ≡ y ∷ ys → xs ≡ ys
same_rest x y xs ys e = cc

same_front : {A : Type 0} (x y : A) (xs ys : List A) → x ∷ xs ≡ y ∷ ys → x ≡ y
same_front x y xs ys e = cc

given_still : (given later : ℕ → Option Given) (numbers : List ℕ) (served : List Given)
    → IsGivenToo given later → AreGiven given numbers served → AreGiven later numbers served
given_still given later [] [] too h = refl
given_still given later [] (one ∷ served) too h = cc
given_still given later (j ∷ numbers) [] too h = cc
given_still given later (j ∷ numbers) (one ∷ served) too h =
    let front = same_front (Some one) (given j) (map Some served) (map given numbers) h in
    let rest = same_rest (Some one) (given j) (map Some served) (map given numbers) h in
    let here = too j one (sym front) in
    let more = given_still given later numbers served too rest in
    ap (λ o. o ∷ map Some served) (sym here) ∙ ap (λ os. later j ∷ os) more

-- a line stays with a state that has the same service and the same earlier requests
closed_still : (plan : Outline) (given later : ℕ → Option Given) (s t : State) (i : ℕ)
    (request : RequestState) (shown : Shown) (standing : Standing) → IsGivenToo given later
    → earlier t i ≡ earlier s i
    → ShowsClosed plan given s i request shown standing
    → ShowsClosed plan later t i request shown standing
closed_still plan given later s t i request shown Open too same h = h
closed_still plan given later s t i request shown Answered too same h = record {
  before = h.before;
  before_are = subst (λ numbers. AreGiven later numbers h.before) (sym same)
      (given_still given later (earlier s i) h.before too h.before_are);
  own = h.own;
  own_is = too i h.own h.own_is;
  shows = h.shows;
}
closed_still plan given later s t i request shown Refused too same h = h
closed_still plan given later s t i request shown Wanted too same h = h

closed_is : (plan : Outline) (given : ℕ → Option Given) (s : State) (i : ℕ)
    (request : RequestState) (shown : Shown) (standing : Standing)
    → ShowsClosed plan given s i request shown standing → is_open_standing standing ≡ false
closed_is plan given s i request shown Open h = absurd h
closed_is plan given s i request shown Answered h = refl
closed_is plan given s i request shown Refused h = refl
closed_is plan given s i request shown Wanted h = refl

-- the requests that came earlier than one that was closed, by what it is
earlier_of_none : (s : State) (i : ℕ) (r : RequestState) → numbered s.requests i ≡ Some r
    → r.context ≡ None → earlier s i ≡ []
unfolding earlier
earlier_of_none s i r is none = ap (earlier_one s.requests) is
    ∙ ap (earlier_given s.requests r.used) none

given_is : (s : State) (i : ℕ) (r : RequestState) → numbered s.requests i ≡ Some r
    → given_to s i ≡ r.context
unfolding given_to
given_is s i r is = ap given_to_one is

earlier_still : (sizes : Extents) (first later : List Event) (s t : State) (i : ℕ)
    (r : RequestState) (context : Option ℕ) → r.context ≡ context
    → after_all sizes (at_first sizes) first ≡ Some s → after_all sizes s later ≡ Some t
    → numbered s.requests i ≡ Some r → numbered t.requests i ≡ Some r
    → earlier t i ≡ earlier s i
earlier_still sizes first later s t i r None none reached on is after_is =
    earlier_of_none t i r after_is none ∙ sym (earlier_of_none s i r is none)
earlier_still sizes first later s t i r (Some c) some reached on is after_is =
    earlier_stays sizes first later s t i c reached on (given_is s i r is ∙ some)

service_still : (s t : State) (i : ℕ) → numbered t.requests i ≡ numbered s.requests i
    → service_of t i ≡ service_of s i
unfolding service_of
service_still s t i same = ap service_of_one same

-- the line of a request stays its line, whatever comes later
pub line_stays : (plan : Outline) (sizes : Extents) (first later : List Event) (s t : State)
    (given more : ℕ → Option Given) (i : ℕ) (answer : AnswerLine)
    → after_all sizes (at_first sizes) first ≡ Some s → after_all sizes s later ≡ Some t
    → IsGivenToo given more → IsLineOf plan given s i answer → IsLineOf plan more t i answer
line_stays plan sizes first later s t given more i answer reached on too line =
    let closed = closed_is plan given s i line.request (shown_in answer) line.request.standing
    line.shows in
    let there = closed_always sizes s later t i line.request on line.request_is closed in
    let service = service_still s t i (there ∙ sym line.request_is) in
    record {
      number_is = line.number_is;
      request = line.request;
      request_is = there;
      how_is = rw service line.how_is;
      context_is = rw service line.context_is;
      used_is = rw service line.used_is;
      shows = closed_still plan given more s t i line.request (shown_in answer)
          line.request.standing too
          (earlier_still sizes first later s t i line.request line.request.context refl reached on
          line.request_is there) line.shows;
    }

pub lines_stay : (plan : Outline) (sizes : Extents) (first later : List Event) (s t : State)
    (given more : ℕ → Option Given) (n : ℕ) (answers : List AnswerLine)
    → after_all sizes (at_first sizes) first ≡ Some s → after_all sizes s later ≡ Some t
    → IsGivenToo given more → AreLinesFrom plan given s n answers
    → AreLinesFrom plan more t n answers
lines_stay plan sizes first later s t given more n [] reached on too lines = tt
lines_stay plan sizes first later s t given more n (answer ∷ answers) reached on too
    (line, lines) = (
      line_stays plan sizes first later s t given more n answer reached on too line,
      lines_stay plan sizes first later s t given more (n + 1) answers reached on too lines,
    )

-- with the line of the next request they are the lines of one request more
pub lines_more : (plan : Outline) (given : ℕ → Option Given) (s : State) (n : ℕ)
    (answers : List AnswerLine) (answer : AnswerLine) → AreLinesFrom plan given s n answers
    → IsLineOf plan given s (n + length answers) answer
    → AreLinesFrom plan given s n (answers ++ answer ∷ [])
lines_more plan given s n [] answer lines line =
    (subst (λ m. IsLineOf plan given s m answer) (omega arith) line, tt)
lines_more plan given s n (first ∷ answers) answer (one, lines) line = (
  one,
  lines_more plan given s (n + 1) answers answer lines
      (subst (λ m. IsLineOf plan given s m answer) (omega arith) line),
)
