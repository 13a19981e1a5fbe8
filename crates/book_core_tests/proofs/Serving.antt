-- The requests that a context answered, by the events.
use Rattle.std.proofs.Common.{◌≡◌, ℕ, ◌+◌, ◌-◌, ◌<◌, ◌≤◌, ◌==◌, Bool, true, false, List, []}
use Rattle.std.proofs.Common.{◌∷◌, ◌++◌, length, drop, get_or, Option, None, Some, refl, sym}
use Rattle.std.proofs.Common.{◌∙◌, ap}
use Rattle.std.proofs.Common.{if◌then◌else◌}
use Rattle.std.specs.List.{slice_get}
use Rattle.std.proofs.lemmas.List.{at_drop_more, at_drop_all}
use Rattle.std.proofs.lemmas.Option.{none-some, same_Some}
use Rattle.journal_model.specs.Extents.{Extents}
use Rattle.journal_model.specs.State.{State, numbered}
use Rattle.journal_model.specs.Legal.{after, after_all, at_first, answered_by, answered_by_one}
use Rattle.journal_model.specs.Reads.{served, answers_below}
use Rattle.journal_model.specs.declared.event.Event.{Event}
use Rattle.journal_model.specs.declared.state.ContextState.{ContextState}
use Rattle.journal_model.proofs.Folds.{all_more, go_on, none_first}
use Rattle.journal_laws.specs.Served.{with_answer}
use Rattle.journal_laws.proofs.Serving.{grows}
use Rattle.book_log.proofs.Logging.{one_more}
use Rattle.book_core_tests.specs.Answered.{with_answers}

-- one event more
pub answers_more : (c : ℕ) (es : List Event) (i : ℕ) (d : Event) (xs ys w : List ℕ) →
    i < length es → ys ≡ with_answer c (get_or es i d) xs → with_answers c (drop i es) xs ≡ w →
    with_answers c (drop (i + 1) es) ys ≡ w
answers_more c es i d xs ys w b e h = ap (with_answers c (drop (i + 1) es)) e
    ∙ (sym (at_drop_more (λ (l : List Event). with_answers c l xs) es i d b) ∙ h)

-- at the end all are there
pub answers_end : (c : ℕ) (es : List Event) (i : ℕ) (xs w : List ℕ) → length es ≤ i →
    with_answers c (drop i es) xs ≡ w → xs ≡ w
answers_end c es i xs w b h =
    sym (at_drop_all (λ (l : List Event). with_answers c l xs) es i b) ∙ h

none_numbered : (c : ℕ) (b : Bool) →
    (if b then None else slice_get {X = ContextState} [] (c - 1)) ≡ None
none_numbered c true = refl
none_numbered c false = refl

first_served : (sizes : Extents) (c : ℕ) → served (at_first sizes) c ≡ []
unfolding served answered_by answers_below numbered
first_served sizes c =
    ap (λ o. answers_below c (answered_by_one o) []) (none_numbered c (c == 0))

abbrev Follows : ℕ → Extents → List Event → List Event → State → Type 0
Follows c sizes pre es t = (m : State) → after_all sizes (at_first sizes) pre ≡ Some m →
    after_all sizes m es ≡ Some t → served t c ≡ with_answers c es (served m c)

served_more : (c : ℕ) (sizes : Extents) (pre : List Event) (e : Event) (es : List Event)
    (s t : State) (o : Option State) → after_all sizes (at_first sizes) pre ≡ Some s →
    after sizes s e ≡ o → go_on sizes es o ≡ Some t → Follows c sizes (pre ++ e ∷ []) es t →
    served t c ≡ with_answers c es (with_answer c e (served s c))
served_more c sizes pre e es s t None h a k f = absurd (none-some t k)
served_more c sizes pre e es s t (Some m) h a k f = f m (one_more sizes pre s m e h a) k
    ∙ ap (with_answers c es) (grows sizes pre s m e c h a)

served_from : (c : ℕ) (sizes : Extents) (pre es : List Event) (t : State) →
    Follows c sizes pre es t
served_from c sizes pre [] t = λ m h k.
    ap (λ (z : State). served z c) (same_Some t m (sym k ∙ none_first sizes m))
served_from c sizes pre (e ∷ es) t = λ m h k.
    served_more c sizes pre e es m t (after sizes m e) h refl
    (sym (all_more sizes m e es) ∙ k) (served_from c sizes (pre ++ e ∷ []) es t)

-- what the events of a legal journal say is what the context served
pub answers_served : (c : ℕ) (sizes : Extents) (es : List Event) (s : State) →
    after_all sizes (at_first sizes) es ≡ Some s → with_answers c es [] ≡ served s c
answers_served c sizes es s h = ap (with_answers c es) (sym (first_served sizes c))
    ∙ sym (served_from c sizes [] es s (at_first sizes) (none_first sizes (at_first sizes)) h)
