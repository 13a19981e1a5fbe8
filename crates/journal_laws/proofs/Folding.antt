-- The fold over events, in two parts, and its verdict.
use Rattle.std.proofs.Common.{◌≡◌, ℕ, ◌+◌, List, [], ◌∷◌, ◌++◌, Option, None, Some, refl, sym, ◌∙◌}
use Rattle.std.proofs.Common.{ap, true}
use Rattle.std.specs.Prelude.{option_and_then}
use Rattle.std.proofs.lemmas.Option.{none-some, same_Some}
use Rattle.journal_model.specs.Extents.{Extents}
use Rattle.journal_model.specs.State.{State}
use Rattle.journal_model.specs.Legal.{after, after_all, judged_from, owes_nothing, totals}
use Rattle.journal_model.specs.declared.event.Event.{Event}
use Rattle.journal_model.specs.declared.state.Judged.TheVariants.{Legal}
use Rattle.journal_model.proofs.Folds.{go_on, all_more, none_first}

joined_at : (sizes : Extents) (a b : List Event) (next : Option State) →
    ((t : State) → after_all sizes t (a ++ b)
    ≡ option_and_then (λ u. after_all sizes u b) (after_all sizes t a)) →
    go_on sizes (a ++ b) next ≡ option_and_then (λ u. after_all sizes u b) (go_on sizes a next)
joined_at sizes a b None rest = refl
joined_at sizes a b (Some t) rest = rest t

-- the fold over events and then others is the fold over the others from where the first lead
pub joined : (sizes : Extents) (s : State) (a b : List Event) → after_all sizes s (a ++ b)
    ≡ option_and_then (λ t. after_all sizes t b) (after_all sizes s a)
joined sizes s [] b =
    sym (ap (option_and_then (λ t. after_all sizes t b)) (none_first sizes s))
joined sizes s (e ∷ a) b = all_more sizes s e (a ++ b)
    ∙ (joined_at sizes a b (after sizes s e) (λ t. joined sizes t a b)
    ∙ sym (ap (option_and_then (λ t. after_all sizes t b)) (all_more sizes s e a)))

-- from a state that is reached, the rest goes on
pub joined_after : (sizes : Extents) (s t : State) (a b : List Event) →
    after_all sizes s a ≡ Some t → after_all sizes s (a ++ b) ≡ after_all sizes t b
joined_after sizes s t a b h =
    joined sizes s a b ∙ ap (option_and_then (λ u. after_all sizes u b)) h

one_more_at : (sizes : Extents) (next : Option State) → go_on sizes [] next ≡ next
one_more_at sizes None = refl
one_more_at sizes (Some t) = none_first sizes t

-- one event after others
pub joined_one : (sizes : Extents) (s t : State) (a : List Event) (e : Event) →
    after_all sizes s a ≡ Some t → after_all sizes s (a ++ e ∷ []) ≡ after sizes t e
joined_one sizes s t a e h = joined_after sizes s t a (e ∷ []) h
    ∙ (all_more sizes t e [] ∙ one_more_at sizes (after sizes t e))

verdict_end : (sizes : Extents) (s t : State) (at : ℕ) → Some s ≡ Some t →
    owes_nothing t.owed ≡ true → judged_from sizes s at [] ≡ Legal (totals t)
unfolding judged_from
verdict_end sizes s t at h k =
    let e : s ≡ t = same_Some s t h in
    let o : owes_nothing s.owed ≡ true = ap (λ (x : State). owes_nothing x.owed) e ∙ k in
    rw o (ap (λ x. Legal (totals x)) e)

verdict_on : (sizes : Extents) (s t : State) (at : ℕ) (e : Event) (es : List Event)
    (next : Option State) → after sizes s e ≡ next →
    ((m : State) → after_all sizes m es ≡ Some t →
    judged_from sizes m (at + 1) es ≡ Legal (totals t)) →
    go_on sizes es next ≡ Some t → judged_from sizes s at (e ∷ es) ≡ Legal (totals t)
unfolding judged_from
verdict_on sizes s t at e es None is rest h = absurd (none-some t h)
verdict_on sizes s t at e es (Some m) is rest h = rw (is, judged_from) (rest m h)

-- a journal that leads to a state where nothing is owed is legal, with that state's totals
pub verdict_legal : (sizes : Extents) (s t : State) (at : ℕ) (es : List Event) →
    after_all sizes s es ≡ Some t → owes_nothing t.owed ≡ true →
    judged_from sizes s at es ≡ Legal (totals t)
verdict_legal sizes s t at [] h k = verdict_end sizes s t at (sym (none_first sizes s) ∙ h) k
verdict_legal sizes s t at (e ∷ es) h k = verdict_on sizes s t at e es (after sizes s e) refl
    (λ m l. verdict_legal sizes m t (at + 1) es l k) (sym (all_more sizes s e es) ∙ h)
