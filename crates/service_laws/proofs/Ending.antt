-- A service ends: the context answers and is over, or its request found no memory and it is over.
use Rattle.std.proofs.Common.{◌≡◌, ℕ, ◌||◌, Bool, true, false, cond, [], ◌∷◌, Some}
use Rattle.std.proofs.Common.{refl, ◌∙◌, ap, subst, nat_le, nat_lt, ◌&&◌, ◌+◌}
use Rattle.journal_model.specs.Extents.{Extents}
use Rattle.journal_model.specs.State.{State, numbered, is_full}
use Rattle.journal_model.specs.Legal as legal
use Rattle.journal_model.specs.Legal.{after, after_all, owes_nothing, owed_after_answer}
use Rattle.journal_model.specs.declared.event.Event.{Event}
use Rattle.journal_model.specs.declared.event.Event.TheVariants.{Answer, Want, Refuse, End}
use Rattle.journal_model.specs.declared.state.ContextState.{ContextState}
use Rattle.journal_model.specs.declared.state.Owed.TheVariants as owed
use Rattle.journal_model.specs.declared.state.RequestState.{RequestState}
use Rattle.journal_model.specs.declared.state.Standing.{Standing}
use Rattle.journal_model.specs.declared.state.Standing.TheVariants.{Refused, Wanted}
use Rattle.journal_model.proofs.Folds.{go_on, all_more, none_first}
use Rattle.journal_model.proofs.Frames.{stood}
use Rattle.journal_laws.proofs.Naming.{IsOpenAt, open_is}
use Rattle.journal_laws.proofs.Ties.{self}
use Rattle.service_laws.specs.Serving.{IsServing}
use Rattle.service_laws.proofs.Looking.{both, served_by_so, standing_here}
use Rattle.service_laws.proofs.Staying.{serving_answers}

first_of_either : (a b : Bool) → a ≡ true → (a || b) ≡ true
first_of_either true b h = refl
first_of_either false b h = absurd (cc)

second_of_either : (a b : Bool) → b ≡ true → (a || b) ≡ true
second_of_either true b h = refl
second_of_either false b h = h

-- two events, one after the other
two_events : (sizes : Extents) (s m t : State) (a b : Event) → after sizes s a ≡ Some m →
    after sizes m b ≡ Some t → after_all sizes s (a ∷ b ∷ []) ≡ Some t
two_events sizes s m t a b h k = all_more sizes s a (b ∷ [])
    ∙ (ap (go_on sizes (b ∷ [])) h ∙ (all_more sizes m b []
    ∙ (ap (go_on sizes []) k ∙ none_first sizes t)))

one_event : (sizes : Extents) (s t : State) (e : Event) → after sizes s e ≡ Some t →
    after_all sizes s (e ∷ []) ≡ Some t
one_event sizes s t e h =
    all_more sizes s e [] ∙ (ap (go_on sizes []) h ∙ none_first sizes t)

-- # After its answer

end_owed : (a b : Bool) (c : ℕ) →
    legal.owes_end (cond a (cond b (owed.EndOrEvict c) (owed.EndOrPark c)) (owed.End c)) c ≡ true
end_owed true true c = self c
end_owed true false c = self c
end_owed false b c = self c

answer_ends : (sizes : Extents) (s : State) (i c u : ℕ) →
    legal.may_end (legal.after_answer sizes s i c u) c ≡ true
unfolding legal.may_end legal.after_answer owed_after_answer
answer_ends sizes s i c u = first_of_either _ _
    (end_owed (nat_le 1 sizes.idle && nat_lt (u + 1) sizes.uses) (is_full sizes.idle s.idle) c)

-- a context that serves may answer and be over
pub serving_ends : (sizes : Extents) (s : State) (i c : ℕ) (x : ContextState) →
    IsServing s i c x → (t : State)
    × (after_all sizes s (Answer i c x.used ∷ End c ∷ []) ≡ Some t)
serving_ends sizes s i c x w =
    let m = legal.after_answer sizes s i c x.used in
    let t = legal.after_end m c in (
      t,
      two_events sizes s m t (Answer i c x.used) (End c)
          (ap (λ b. legal.step_if b m) (serving_answers s i c x w))
          (ap (λ b. legal.step_if b t) (answer_ends sizes s i c x.used)),
    )

-- # Where its request was refused or wanted

fails_so : (s : State) (i : ℕ) (r : RequestState) → numbered s.requests i ≡ Some r →
    legal.is_failed_standing r.standing ≡ true → legal.is_failed s i ≡ true
unfolding legal.is_failed
fails_so s i r h k = ap legal.is_failed_one h ∙ k

standing_parts : (s : State) (i : ℕ) (z : Standing) → (o : IsOpenAt s.requests i) →
    (numbered (legal.after_standing s i z).requests i ≡ Some (record o.one {
      standing = z;
      place = legal.place_of_given s (legal.given_to s i);
    })) × ((legal.after_standing s i z).contexts ≡ s.contexts)
    × ((legal.after_standing s i z).owed ≡ s.owed)
unfolding legal.after_standing
standing_parts s i z o = (
  standing_here i z (legal.place_of_given s (legal.given_to s i)) s.requests o.one o.entry,
  refl,
  refl,
)

failed_ends_at : (s t : State) (i c : ℕ) (x : ContextState) → IsServing s i c x →
    t.contexts ≡ s.contexts → t.owed ≡ s.owed → legal.is_failed t i ≡ true →
    legal.may_end t c ≡ true
unfolding legal.may_end
failed_ends_at s t i c x w e o f = second_of_either _ _ (both _ _
    (ap owes_nothing o ∙ w.owes)
    (ap (λ n. legal.is_failed t n) (served_by_so t c i x
    (ap (λ xs. numbered xs c) e ∙ w.work.context) w.work.duty) ∙ f))

failed_ends : (s : State) (i c : ℕ) (x : ContextState) (z : Standing) →
    legal.is_failed_standing z ≡ true → IsServing s i c x →
    legal.may_end (legal.after_standing s i z) c ≡ true
failed_ends s i c x z f w =
    let p = standing_parts s i z (open_is s i w.work.open_one) in
    failed_ends_at s (legal.after_standing s i z) i c x w p.1 p.2
    (fails_so (legal.after_standing s i z) i _ p.0 f)

ends_then : (sizes : Extents) (s : State) (c : ℕ) → legal.may_end s c ≡ true →
    after_all sizes s (End c ∷ []) ≡ Some (legal.after_end s c)
ends_then sizes s c h = one_event sizes s (legal.after_end s c) (End c)
    (ap (λ b. legal.step_if b (legal.after_end s c)) h)

-- a context whose request wanted memory may be over
pub wanted_ends : (sizes : Extents) (s : State) (i c : ℕ) (x : ContextState) (t : State) →
    IsServing s i c x → after sizes s (Want i) ≡ Some t →
    (u : State) × (after_all sizes t (End c ∷ []) ≡ Some u)
wanted_ends sizes s i c x t w h = let r = stood _ _ t h in
    let P : State → Type 0 = λ m. legal.may_end m c ≡ true in
    (legal.after_end t c, ends_then sizes t c (subst P r.1 (failed_ends s i c x Wanted refl w)))

-- and one whose request was refused
pub refused_ends : (sizes : Extents) (s : State) (i c : ℕ) (x : ContextState) (t : State) →
    IsServing s i c x → after sizes s (Refuse i) ≡ Some t →
    (u : State) × (after_all sizes t (End c ∷ []) ≡ Some u)
refused_ends sizes s i c x t w h = let r = stood _ _ t h in
    let P : State → Type 0 = λ m. legal.may_end m c ≡ true in
    (legal.after_end t c, ends_then sizes t c (subst P r.1 (failed_ends s i c x Refused refl w)))
