-- What an event that may stand gives the calls of a book.
use Rattle.std.proofs.Common.{◌≡◌, ℕ, ◌+◌, Bool, true, false, List, [], ◌∷◌, length, nat_lt}
use Rattle.std.proofs.Common.{Option, None, Some, Result, Ok, Err, refl, sym, ◌∙◌, ap, subst}
use Rattle.std.proofs.Common.{IsSome, IfOk, if◌then◌else◌}
use Rattle.std.proofs.lemmas.Option.{none-some, same_Some}
use Rattle.journal_model.specs.Extents.{Extents}
use Rattle.journal_model.specs.State.{State, Replay, numbered}
use Rattle.journal_model.specs.Legal as legal
use Rattle.journal_model.specs.Legal.{after, after_all}
use Rattle.journal_model.specs.declared.event.Event.{Event}
use Rattle.journal_model.specs.declared.event.Event.TheVariants.{Start, Want, End, Answer}
use Rattle.journal_model.specs.declared.state.RequestState.{RequestState}
use Rattle.journal_model.proofs.Folds.{all_more, go_on, none_first}
use Rattle.journal_model.proofs.Frames.{and_second}
use Rattle.machine_model.specs.declared.packet.Memory.{Memory}
use Rattle.run_journal.specs.Steps.{Steps}
use Rattle.book_model.specs.Steps.{ended}
use Rattle.book_core_tests.proofs.Replaying.{goes, some_of}

some_stood : (b : Bool) (x : State) → IsSome (legal.step_if b x) → b ≡ true
some_stood true x h = refl
some_stood false x h = absurd (cc)

-- the number of the next request is one more than there were
next_is : (n i : ℕ) (b : Bool) → Some i ≡ (if b then Some (n + 1) else None) → i ≡ n + 1
next_is n i true h = same_Some i (n + 1) h
next_is n i false h = absurd (none-some i (sym h))

-- the next request may be started
pub start_may : (sizes : Extents) (s : State) (n m i f t : ℕ) →
    Some i ≡ (if nat_lt n m then Some (n + 1) else None) → IsSome (after sizes s (Start i f t)) →
    legal.may_start sizes s (n + 1) f t ≡ true
start_may sizes s n m i f t e h =
    subst (λ (k : ℕ). legal.may_start sizes s k f t ≡ true) (next_is n i (nat_lt n m) e)
    (some_stood _ _ h)

-- a request is open
pub want_open : (sizes : Extents) (s : State) (i : ℕ) → IsSome (after sizes s (Want i)) →
    legal.is_open s i ≡ true
unfolding legal.may_want
want_open sizes s i h = and_second (legal.owes_nothing s.owed) _ (some_stood _ _ h)

-- a request waits
pub waits_is : (j s : State) (i : ℕ) (r : RequestState) → j ≡ s → Some r ≡ numbered j.requests i →
    legal.is_waiting_one (Some r) ≡ true → legal.is_waiting s i ≡ true
unfolding legal.is_waiting
waits_is j s i r n e h = ap legal.is_waiting_one
    (ap (λ (z : State). numbered z.requests i) (sym n) ∙ sym e) ∙ h

-- its function
pub function_is : (j s : State) (i : ℕ) (r : RequestState) → j ≡ s →
    Some r ≡ numbered j.requests i → legal.request_function s i ≡ r.function
unfolding legal.request_function
function_is j s i r n e = ap legal.function_of_one
    (ap (λ (z : State). numbered z.requests i) (sym n) ∙ sym e)

-- one event may stand where a step says so
pub may_step : (r : Result Bool Memory) (s new : State) (next : Option State) →
    Steps r s new next → IfOk r (λ may. may ≡ true → IsSome next)
may_step (Ok true) s new next h = λ t. some_of next new h
may_step (Ok false) s new next h = λ t. absurd (cc)
may_step (Err e) s new next h = tt

one_stands : (sizes : Extents) (s new : State) (e : Event) → after sizes s e ≡ Some new →
    after_all sizes s (e ∷ []) ≡ Some new
one_stands sizes s new e h = all_more sizes s e []
    ∙ (ap (go_on sizes []) h ∙ none_first sizes new)

two_stand : (sizes : Extents) (s mid new : State) (e f : Event) → after sizes s e ≡ Some mid →
    after sizes mid f ≡ Some new → after_all sizes s (e ∷ f ∷ []) ≡ Some new
two_stand sizes s mid new e f h k = all_more sizes s e (f ∷ [])
    ∙ (ap (go_on sizes (f ∷ [])) h ∙ one_stands sizes mid new f k)

-- two events may stand, one after the other, where two steps say so
pub may_second : (r : Result Bool Memory) (b : Bool) (sizes now : Extents) (s mid new : State)
    (e f : Event) → now ≡ sizes → b ≡ true → Steps (Ok b) s mid (after sizes s e) →
    Steps r mid new (after now mid f) →
    IfOk r (λ may. may ≡ true → IsSome (after_all sizes s (e ∷ f ∷ [])))
may_second (Ok true) b sizes now s mid new e f n t h k = λ u. some_of _ new
    (two_stand sizes s mid new e f (goes b s mid _ t h)
    (subst (λ (z : Extents). after z mid f ≡ Some new) n k))
may_second (Ok false) b sizes now s mid new e f n t h k = λ u. absurd (cc)
may_second (Err x) b sizes now s mid new e f n t h k = tt

-- what may be so of the journal may be so of the book
pub may_here : (r : Result Bool Memory) (j : Replay) (sizes : Extents) (s : State)
    (P : Extents → State → Type 0) → j.sizes ≡ sizes → j.state ≡ s →
    IfOk r (λ may. may ≡ true → P j.sizes j.state) → IfOk r (λ may. may ≡ true → P sizes s)
may_here (Ok b) j sizes s P n e h = λ t. subst (λ (z : State). P sizes z) e
    (subst (λ (y : Extents). P y j.state) n (h t))
may_here (Err x) j sizes s P n e h = tt

some_one : (sizes : Extents) (s : State) (e : Event) (o : Option State) → after sizes s e ≡ o →
    IsSome o → IsSome (after_all sizes s (e ∷ []))
some_one sizes s e None h k = absurd (cc)
some_one sizes s e (Some t) h k = some_of _ t (one_stands sizes s t e h)

-- a context may end without an answer
pub may_end_one : (r : Result Bool Memory) (j : Replay) (sizes : Extents) (s : State) (i c : ℕ)
    (answered : Option ℕ) → j.sizes ≡ sizes → j.state ≡ s → answered ≡ None →
    IfOk r (λ may. may ≡ true → IsSome (after j.sizes j.state (End c))) →
    IfOk r (λ may. may ≡ true → IsSome (after_all sizes s (ended i c answered)))
may_end_one (Ok b) j sizes s i c answered n e a h = λ t.
    subst (λ (o : Option ℕ). IsSome (after_all sizes s (ended i c o))) (sym a)
    (subst (λ (z : State). IsSome (after_all sizes z (End c ∷ []))) e
    (subst (λ (y : Extents). IsSome (after_all y j.state (End c ∷ []))) n
    (some_one j.sizes j.state (End c) _ refl (h t))))
may_end_one (Err x) j sizes s i c answered n e a h = tt

-- a context may end after its answer
pub may_end_two : (r : Result Bool Memory) (j : Replay) (sizes : Extents) (s : State) (i c u : ℕ)
    (answered : Option ℕ) → j.sizes ≡ sizes → j.state ≡ s → answered ≡ Some u →
    IfOk r (λ may. may ≡ true → IsSome (after_all j.sizes j.state
    (Answer i c u ∷ End c ∷ []))) →
    IfOk r (λ may. may ≡ true → IsSome (after_all sizes s (ended i c answered)))
may_end_two (Ok b) j sizes s i c u answered n e a h = λ t.
    subst (λ (o : Option ℕ). IsSome (after_all sizes s (ended i c o))) (sym a)
    (subst (λ (z : State). IsSome (after_all sizes z (Answer i c u ∷ End c ∷ []))) e
    (subst (λ (y : Extents). IsSome (after_all y j.state (Answer i c u ∷ End c ∷ []))) n
    (h t)))
may_end_two (Err x) j sizes s i c u answered n e a h = tt
