-- The line of a request that is answered, or finds no memory.
use Rattle.std.proofs.Common.{◌≡◌, ℕ, true, List, [], ◌∷◌, ◌++◌, Option, Some, sym, ◌∙◌, ap}
use Rattle.std.proofs.Common.{subst}
use Rattle.batch_model.specs.Replies.{AreGiven, IsLineOf, Shows, nothing_but}
use Rattle.batch_model.specs.Replies.{shown_in}
use Rattle.batch_model.proofs.Appending.{line_stays}
use Rattle.journal_laws.proofs.Early.{earlier_then, line_so, want_closes}
use Rattle.journal_laws.proofs.Folding.{joined_one}
use Rattle.journal_laws.proofs.Naming.{open_is}
use Rattle.journal_model.specs.Extents.{Extents}
use Rattle.journal_model.specs.Legal as legal
use Rattle.journal_model.specs.Legal.{after, after_all, at_first, is_open, request_function}
use Rattle.journal_model.specs.Reads.{service_of, served}
use Rattle.journal_model.specs.State.{State, numbered}
use Rattle.journal_model.specs.declared.answer.Answer.{Answer as AnswerLine}
use Rattle.journal_model.specs.declared.answer.End.TheVariants as ends
use Rattle.journal_model.specs.declared.event.Event.{Event}
use Rattle.journal_model.specs.declared.event.Event.TheVariants.{Answer, Want}
use Rattle.journal_model.specs.declared.state.ContextState.{ContextState}
use Rattle.journal_model.specs.declared.state.RequestState.{RequestState}
use Rattle.journal_model.specs.declared.state.Standing.TheVariants.{Answered, Wanted}
use Rattle.journal_model.proofs.Folds.{none_first, parted}
use Rattle.journal_model.proofs.Frames.{stood}
use Rattle.plan_model.specs.Outline.{Outline}
use Rattle.service_laws.specs.Serving.{IsServing}
use Rattle.service_laws.proofs.Looking.{function_so, place_so, standing_here}
use Rattle.space_api.specs.declared.given.Given.{Given}

-- ---- one event, and what comes later

pub record IsBegun (sizes : Extents) (s : State) (e : Event) (later : List Event) (t : State)
    : Type 0 where
  pub between : State
  pub first : after sizes s e ≡ Some between
  pub second : after_all sizes between later ≡ Some t

-- the event alone leads to the state
pub one_event : (sizes : Extents) (s : State) (e : Event) (t : State)
    → after_all sizes s (e ∷ []) ≡ Some t → after sizes s e ≡ Some t
one_event sizes s e t h = sym (joined_one sizes s s [] e (none_first sizes s)) ∙ h

pub begun : (sizes : Extents) (s : State) (e : Event) (later : List Event) (t : State)
    → after_all sizes s (e ∷ later) ≡ Some t → IsBegun sizes s e later t
begun sizes s e later t h =
    let p = parted sizes s (e ∷ []) later t h in
    record {
      between = p.between;
      first = one_event sizes s e p.between p.first;
      second = p.second;
    }

-- ---- an answer

-- the request that was answered, as it stands then
abbrev answered_as : RequestState → Option ℕ → RequestState
answered_as r place = record r { standing = Answered; place = place }

answer_entry : (sizes : Extents) (s t : State) (i c u : ℕ) (r : RequestState)
    → numbered s.requests i ≡ Some r → after sizes s (Answer i c u) ≡ Some t
    → numbered t.requests i ≡ Some (answered_as r (legal.place_of s c))
unfolding legal.after_answer
answer_entry sizes s t i c u r is h = let p = stood _ _ t h in
    ap (λ (z : State). numbered z.requests i) (sym p.1)
    ∙ standing_here i Answered (legal.place_of s c) s.requests r is

-- the request that the answer closes has its line
line_then : (plan : Outline) (sizes : Extents) (first : List Event) (s t : State) (i c : ℕ)
    (x : ContextState) (given : ℕ → Option Given) (before : List Given) (own : Given)
    (answer : AnswerLine) → after_all sizes (at_first sizes) first ≡ Some s
    → after sizes s (Answer i c x.used) ≡ Some t → IsServing s i c x → given i ≡ Some own
    → AreGiven given (served s c) before
    → Shows plan (request_function s i) x.layer before own (shown_in answer) → answer.i ≡ i
    → answer.how ≡ (service_of s i).how → answer.context ≡ (service_of s i).context
    → answer.used ≡ (service_of s i).used → IsLineOf plan given t i answer
line_then plan sizes first s t i c x given before own answer reached on w own_is are shows n h k u =
    let o = open_is s i w.work.open_one in
    let line = line_so sizes first s t i c x.used reached on in
    let same = sym (line.0) in
    record {
      number_is = n;
      request = answered_as o.one (legal.place_of s c);
      request_is = answer_entry sizes s t i c x.used o.one o.entry on;
      how_is = h ∙ ap (λ z. z.how) same;
      context_is = k ∙ ap (λ z. z.context) same;
      used_is = u ∙ ap (λ z. z.used) same;
      shows = record {
        before = before;
        before_are = subst (λ numbers. AreGiven given numbers before)
            (sym (earlier_then sizes first s t i c x.used reached on)) are;
        own = own;
        own_is = own_is;
        shows = subst (λ place. Shows plan o.one.function place before own (shown_in answer))
            (sym (place_so s c x w.work.context))
            (subst (λ f. Shows plan f x.layer before own (shown_in answer))
            (function_so s i o.one o.entry) shows);
      };
    }

pub answer_makes_line : (plan : Outline) (sizes : Extents) (first later : List Event)
    (s t : State) (i c : ℕ) (x : ContextState) (given : ℕ → Option Given) (before : List Given)
    (own : Given) (answer : AnswerLine) → after_all sizes (at_first sizes) first ≡ Some s
    → after_all sizes s (Answer i c x.used ∷ later) ≡ Some t → IsServing s i c x
    → given i ≡ Some own → AreGiven given (served s c) before
    → Shows plan (request_function s i) x.layer before own (shown_in answer) → answer.i ≡ i
    → answer.how ≡ (service_of s i).how → answer.context ≡ (service_of s i).context
    → answer.used ≡ (service_of s i).used → IsLineOf plan given t i answer
answer_makes_line plan sizes first later s t i c x given before own answer reached on w own_is are
    shows n h k u =
    let b = begun sizes s (Answer i c x.used) later t on in
    line_stays plan sizes (first ++ Answer i c x.used ∷ []) later b.between t given given i answer
    (joined_one sizes (at_first sizes) s first (Answer i c x.used) reached ∙ b.first) b.second
    (λ j one is. is)
    (line_then plan sizes first s b.between i c x given before own answer reached b.first w own_is
    are shows n h k u)

-- ---- a want

abbrev wanted_as : RequestState → Option ℕ → RequestState
wanted_as r place = record r { standing = Wanted; place = place }

want_entry : (sizes : Extents) (s t : State) (i : ℕ) (r : RequestState)
    → numbered s.requests i ≡ Some r → after sizes s (Want i) ≡ Some t
    → numbered t.requests i ≡ Some (wanted_as r (legal.place_of_given s (legal.given_to s i)))
unfolding legal.after_standing
want_entry sizes s t i r is h = let p = stood _ _ t h in
    ap (λ (z : State). numbered z.requests i) (sym p.1)
    ∙ standing_here i Wanted (legal.place_of_given s (legal.given_to s i)) s.requests r is

want_then : (plan : Outline) (sizes : Extents) (s t : State) (i : ℕ)
    (given : ℕ → Option Given) (answer : AnswerLine) → after sizes s (Want i) ≡ Some t
    → is_open s i ≡ true → answer.i ≡ i → answer.how ≡ (service_of s i).how
    → answer.context ≡ (service_of s i).context → answer.used ≡ (service_of s i).used
    → shown_in answer ≡ nothing_but ends.Memory → IsLineOf plan given t i answer
want_then plan sizes s t i given answer on open_one n h k u shows =
    let o = open_is s i open_one in
    let same = sym ((want_closes sizes s t i on).0) in
    record {
      number_is = n;
      request = wanted_as o.one (legal.place_of_given s (legal.given_to s i));
      request_is = want_entry sizes s t i o.one o.entry on;
      how_is = h ∙ ap (λ z. z.how) same;
      context_is = k ∙ ap (λ z. z.context) same;
      used_is = u ∙ ap (λ z. z.used) same;
      shows = shows;
    }

pub want_makes_line : (plan : Outline) (sizes : Extents) (first later : List Event)
    (s t : State) (i : ℕ) (given : ℕ → Option Given) (answer : AnswerLine)
    → after_all sizes (at_first sizes) first ≡ Some s
    → after_all sizes s (Want i ∷ later) ≡ Some t → is_open s i ≡ true → answer.i ≡ i
    → answer.how ≡ (service_of s i).how → answer.context ≡ (service_of s i).context
    → answer.used ≡ (service_of s i).used → shown_in answer ≡ nothing_but ends.Memory
    → IsLineOf plan given t i answer
want_makes_line plan sizes first later s t i given answer reached on open_one n h k u shows =
    let b = begun sizes s (Want i) later t on in
    line_stays plan sizes (first ++ Want i ∷ []) later b.between t given given i answer
    (joined_one sizes (at_first sizes) s first (Want i) reached ∙ b.first) b.second
    (λ j one is. is)
    (want_then plan sizes s b.between i given answer b.first open_one n h k u shows)
