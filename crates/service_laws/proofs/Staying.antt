-- A service goes on through every event that names neither its context nor its request.
use Rattle.std.proofs.Common.{◌≡◌, ℕ, ◌-◌, ◌||◌, Bool, true, false, cond, List, [], ◌∷◌, ◌++◌}
use Rattle.std.proofs.Common.{Option, None, Some, refl, sym, ◌∙◌, ap, subst}
use Rattle.std.specs.List.{list_any}
use Rattle.std.proofs.lemmas.Option.{none-some, same_Some}
use Rattle.journal_model.specs.Extents.{Extents}
use Rattle.journal_model.specs.State.{State, numbered}
use Rattle.journal_model.specs.Names.{names_request, names_context}
use Rattle.journal_model.specs.Legal as legal
use Rattle.journal_model.specs.Legal.{after, after_all, at_first, owes_nothing}
use Rattle.journal_model.specs.Reads.{served}
use Rattle.journal_model.specs.declared.event.Event.{Event}
use Rattle.journal_model.specs.declared.event.Event.TheVariants.{Start, Take, Deploy, Refill}
use Rattle.journal_model.specs.declared.event.Event.TheVariants.{Built, Keep, Dup, Drop, Evict}
use Rattle.journal_model.specs.declared.event.Event.TheVariants.{Park, End, Back, Refuse, Want}
use Rattle.journal_model.specs.declared.event.Event.TheVariants.{Answer}
use Rattle.journal_model.specs.declared.state.ContextState.{ContextState}
use Rattle.journal_model.proofs.Folds.{go_on, all_more, none_first}
use Rattle.journal_model.proofs.Frames.{and_first, stood}
use Rattle.journal_laws.specs.Served.{with_answer}
use Rattle.journal_laws.proofs.Folding.{joined_one}
use Rattle.journal_laws.proofs.Naming.{kept_by_all, request_stays, context_stays}
use Rattle.journal_laws.proofs.Serving.{grows}
use Rattle.service_laws.specs.Serving.{IsAtWork, IsServing, is_answer_by}
use Rattle.service_laws.proofs.Looking.{both, serves_so, served_by_so, has_answered_so}

-- # What a context that serves a request may do

pub work_serves : (s : State) (i c : ℕ) (x : ContextState) → IsAtWork s i c x →
    legal.serves s c i ≡ true
work_serves s i c x w = serves_so s c i x w.context w.duty

pub work_open : (s : State) (i c : ℕ) (x : ContextState) → IsAtWork s i c x →
    legal.is_open s (legal.served_by s c) ≡ true
work_open s i c x w =
    ap (λ n. legal.is_open s n) (served_by_so s c i x w.context w.duty) ∙ w.open_one

-- it may answer it, after as many as it answered
pub serving_answers : (s : State) (i c : ℕ) (x : ContextState) → IsServing s i c x →
    legal.may_answer s i c x.used ≡ true
unfolding legal.may_answer
serving_answers s i c x w =
    both _ _ (both _ _ (both _ _ w.owes w.work.open_one) (work_serves s i c x w.work))
    (has_answered_so s c x w.work.context)

-- its request may want memory
pub serving_wants : (s : State) (i c : ℕ) (x : ContextState) → IsServing s i c x →
    legal.may_want s i ≡ true
unfolding legal.may_want
serving_wants s i c x w = both _ _ w.owes w.work.open_one

-- # What goes on

abbrev RequestSame : State → State → ℕ → Type 0
RequestSame s t i = numbered t.requests i ≡ numbered s.requests i

function_same : (s t : State) (i : ℕ) → RequestSame s t i →
    legal.request_function t i ≡ legal.request_function s i
unfolding legal.request_function
function_same s t i h = ap legal.function_of_one h

pub open_same : (s t : State) (i : ℕ) → RequestSame s t i → legal.is_open t i ≡ legal.is_open s i
unfolding legal.is_open
open_same s t i h = ap legal.is_open_one h

waiting_same : (s t : State) (i : ℕ) → RequestSame s t i →
    legal.is_waiting t i ≡ legal.is_waiting s i
unfolding legal.is_waiting
waiting_same s t i h = ap legal.is_waiting_one h

pub requests_stay : (sizes : Extents) (s : State) (es : List Event) (t : State) (i : ℕ) →
    after_all sizes s es ≡ Some t → list_any (names_request i) es ≡ false → RequestSame s t i
requests_stay sizes s es t i h n =
    kept_by_all (λ (x : State). numbered x.requests i) (names_request i) sizes s es t
    (λ x e y k m. request_stays sizes x e y i k m) h n

pub contexts_stay : (sizes : Extents) (s : State) (es : List Event) (t : State) (c : ℕ) →
    after_all sizes s es ≡ Some t → list_any (names_context c) es ≡ false →
    numbered t.contexts c ≡ numbered s.contexts c
contexts_stay sizes s es t c h n =
    kept_by_all (λ (x : State). numbered x.contexts c) (names_context c) sizes s es t
    (λ x e y k m. context_stays sizes x e y c k m) h n

-- the function of a request stays, and so does whether it waits
pub function_stays : (sizes : Extents) (s : State) (es : List Event) (t : State) (i : ℕ) →
    after_all sizes s es ≡ Some t → list_any (names_request i) es ≡ false →
    legal.request_function t i ≡ legal.request_function s i
function_stays sizes s es t i h n = function_same s t i (requests_stay sizes s es t i h n)

pub waiting_stays : (sizes : Extents) (s : State) (es : List Event) (t : State) (i : ℕ) →
    after_all sizes s es ≡ Some t → list_any (names_request i) es ≡ false →
    legal.is_waiting t i ≡ legal.is_waiting s i
waiting_stays sizes s es t i h n = waiting_same s t i (requests_stay sizes s es t i h n)

work_same : (s t : State) (i c : ℕ) (x : ContextState) → RequestSame s t i →
    numbered t.contexts c ≡ numbered s.contexts c → IsAtWork s i c x → IsAtWork t i c x
work_same s t i c x r k w = record {
  context = k ∙ w.context;
  duty = w.duty;
  open_one = open_same s t i r ∙ w.open_one;
}

-- an event that names neither leaves a context at work
pub work_stays_once : (sizes : Extents) (s : State) (e : Event) (t : State) (i c : ℕ)
    (x : ContextState) → after sizes s e ≡ Some t → names_request i e ≡ false →
    names_context c e ≡ false → IsAtWork s i c x → IsAtWork t i c x
work_stays_once sizes s e t i c x h n m w = work_same s t i c x (request_stays sizes s e t i h n)
    (context_stays sizes s e t c h m) w

-- and so do events
pub work_stays : (sizes : Extents) (s : State) (es : List Event) (t : State) (i c : ℕ)
    (x : ContextState) → after_all sizes s es ≡ Some t → list_any (names_request i) es ≡ false →
    list_any (names_context c) es ≡ false → IsAtWork s i c x → IsAtWork t i c x
work_stays sizes s es t i c x h n m w =
    work_same s t i c x (requests_stay sizes s es t i h n) (contexts_stay sizes s es t c h m) w

-- where nothing is owed after them, it serves on
pub serving_stays : (sizes : Extents) (s : State) (es : List Event) (t : State) (i c : ℕ)
    (x : ContextState) → after_all sizes s es ≡ Some t → list_any (names_request i) es ≡ false →
    list_any (names_context c) es ≡ false → owes_nothing t.owed ≡ true → IsServing s i c x →
    IsServing t i c x
serving_stays sizes s es t i c x h n m o w =
    record { work = work_stays sizes s es t i c x h n m w.work; owes = o }

same_all : (s t : State) (i c : ℕ) (x : ContextState) → s.requests ≡ t.requests →
    s.contexts ≡ t.contexts → IsAtWork s i c x → IsAtWork t i c x
same_all s t i c x r k w = work_same s t i c x (ap (λ z. numbered z i) (sym r))
    (ap (λ z. numbered z c) (sym k)) w

refill_work : (s : State) (n i c : ℕ) (x : ContextState) → IsAtWork s i c x →
    IsAtWork (legal.after_refill s n) i c x
unfolding legal.after_refill
refill_work s n i c x w = same_all s (record s { free = s.free - n }) i c x refl refl w

refill_owes : (sizes : Extents) (s : State) (c h n : ℕ) → legal.may_refill sizes s c h n ≡ true →
    owes_nothing (legal.after_refill s n).owed ≡ true
unfolding legal.may_refill legal.after_refill
refill_owes sizes s c h n m =
    and_first _ _ (and_first _ _ (and_first _ _ (and_first _ _ (and_first _ _ m))))

-- spare frames for the context itself leave it serving
pub refilled_serves : (sizes : Extents) (s : State) (d h n : ℕ) (t : State) (i c : ℕ)
    (x : ContextState) → after sizes s (Refill d h n) ≡ Some t → IsAtWork s i c x →
    IsServing t i c x
refilled_serves sizes s d h n t i c x k w = let r = stood _ _ t k in
    let P : State → Type 0 = λ z. IsServing z i c x in subst P r.1 (record {
      work = refill_work s n i c x w;
      owes = refill_owes sizes s d h n r.0;
    })

-- # What a context served

same_answer : (c : ℕ) (e : Event) (xs : List ℕ) → is_answer_by c e ≡ false →
    with_answer c e xs ≡ xs
same_answer c (Start i f t) xs h = refl
same_answer c (Take d i) xs h = refl
same_answer c (Deploy d k i n) xs h = refl
same_answer c (Refill d m n) xs h = refl
same_answer c (Built d k n) xs h = refl
same_answer c (Keep k) xs h = refl
same_answer c (Dup k) xs h = refl
same_answer c (Drop k) xs h = refl
same_answer c (Evict d) xs h = refl
same_answer c (Park d) xs h = refl
same_answer c (End d) xs h = refl
same_answer c (Back n) xs h = refl
same_answer c (Refuse i) xs h = refl
same_answer c (Want i) xs h = refl
same_answer c (Answer i d u) xs h = ap (λ b. cond b (xs ++ i ∷ []) xs) h

-- an event that doesn't name a context is no answer by it
no_answer_by : (c : ℕ) (e : Event) → names_context c e ≡ false → is_answer_by c e ≡ false
no_answer_by c (Start i f t) h = refl
no_answer_by c (Take d i) h = refl
no_answer_by c (Deploy d k i n) h = refl
no_answer_by c (Refill d m n) h = refl
no_answer_by c (Built d k n) h = refl
no_answer_by c (Keep k) h = refl
no_answer_by c (Dup k) h = refl
no_answer_by c (Drop k) h = refl
no_answer_by c (Evict d) h = refl
no_answer_by c (Park d) h = refl
no_answer_by c (End d) h = refl
no_answer_by c (Back n) h = refl
no_answer_by c (Refuse i) h = refl
no_answer_by c (Want i) h = refl
no_answer_by c (Answer i d u) h = h

or_no : (a b : Bool) → (a || b) ≡ false → (a ≡ false) × (b ≡ false)
or_no true b h = absurd (cc)
or_no false b h = (refl, h)

no_or : (a b : Bool) → a ≡ false → b ≡ false → (a || b) ≡ false
no_or true b h k = absurd (cc)
no_or false b h k = k

pub no_answers_by : (c : ℕ) (es : List Event) → list_any (names_context c) es ≡ false →
    list_any (is_answer_by c) es ≡ false
no_answers_by c [] h = refl
no_answers_by c (e ∷ es) h =
    let p = or_no (names_context c e) (list_any (names_context c) es) h in
    no_or _ _ (no_answer_by c e p.0) (no_answers_by c es p.1)

-- what a context served stays, where an event is no answer by it
pub served_stays_once : (sizes : Extents) (es : List Event) (s t : State) (e : Event) (c : ℕ) →
    after_all sizes (at_first sizes) es ≡ Some s → after sizes s e ≡ Some t →
    is_answer_by c e ≡ false → served t c ≡ served s c
served_stays_once sizes es s t e c h k n =
    grows sizes es s t e c h k ∙ same_answer c e (served s c) n

served_on : (sizes : Extents) (a : List Event) (s : State) (e : Event) (es : List Event)
    (next : Option State) (t : State) (c : ℕ) → after sizes s e ≡ next →
    after_all sizes (at_first sizes) a ≡ Some s → is_answer_by c e ≡ false →
    ((m : State) → after_all sizes (at_first sizes) (a ++ e ∷ []) ≡ Some m →
    after_all sizes m es ≡ Some t → served t c ≡ served m c) →
    go_on sizes es next ≡ Some t → served t c ≡ served s c
served_on sizes a s e es None t c is h n rest g = absurd (none-some t g)
served_on sizes a s e es (Some m) t c is h n rest g =
    rest m (joined_one sizes (at_first sizes) s a e h ∙ is) g
    ∙ served_stays_once sizes a s m e c h is n

-- and where none of several events is
pub served_stays : (sizes : Extents) (a : List Event) (s : State) (es : List Event) (t : State)
    (c : ℕ) → after_all sizes (at_first sizes) a ≡ Some s → after_all sizes s es ≡ Some t →
    list_any (is_answer_by c) es ≡ false → served t c ≡ served s c
served_stays sizes a s [] t c h k n =
    ap (λ x. served x c) (sym (same_Some s t (sym (none_first sizes s) ∙ k)))
served_stays sizes a s (e ∷ es) t c h k n =
    let p = or_no (is_answer_by c e) (list_any (is_answer_by c) es) n in
    served_on sizes a s e es (after sizes s e) t c refl h p.0
    (λ m l g. served_stays sizes (a ++ e ∷ []) m es t c l g p.1) (sym (all_more sizes s e es) ∙ k)
