-- A request is given a context, which serves it then: an idle one is taken, or one is deployed.
use Rattle.std.proofs.Common.{◌≡◌, ℕ, Bool, true, false, cond, List, [], ◌∷◌, ◌++◌}
use Rattle.std.proofs.Common.{Option, Some, refl, sym, ◌∙◌, ap, subst}
use Rattle.std.specs.List.{find}
use Rattle.std.proofs.lemmas.Option.{none-some, same_Some}
use Rattle.journal_model.specs.Extents.{Extents}
use Rattle.journal_model.specs.State.{State, numbered, stack_of}
use Rattle.journal_model.specs.Legal as legal
use Rattle.journal_model.specs.Legal.{after, after_all, at_first, owes_nothing, with_service}
use Rattle.journal_model.specs.Reads.{served, answers_below}
use Rattle.journal_model.specs.declared.event.Event.{Event}
use Rattle.journal_model.specs.declared.event.Event.TheVariants.{Take, Deploy}
use Rattle.journal_model.specs.declared.answer.How.{How}
use Rattle.journal_model.specs.declared.answer.How.TheVariants as how
use Rattle.journal_model.specs.declared.state.ContextState.{ContextState}
use Rattle.journal_model.specs.declared.state.Duty.TheVariants.{Serves}
use Rattle.journal_model.proofs.Frames.{and_first, and_second, stood}
use Rattle.journal_model.proofs.Recents.{same, just}
use Rattle.journal_laws.proofs.Naming.{next_context}
use Rattle.journal_laws.proofs.Numbers.{pushed_here}
use Rattle.journal_laws.proofs.Serving.{grows, take_waits}
use Rattle.journal_laws.proofs.Ties.{waiting_is, IsWaitingAt, deploy_quiet}
use Rattle.service_laws.specs.Serving.{IsServing, deployed_context}
use Rattle.service_laws.proofs.Looking.{duty_here, service_here, open_so, function_so}
use Rattle.service_laws.proofs.Looking.{answered_by_so}

-- a request that was given a context is open as before, and for the same function
abbrev Given : (s t : State) → (i : ℕ) → Type 0
Given s t i = (legal.is_open t i ≡ true)
    × (legal.request_function t i ≡ legal.request_function s i)

given_so : (s t : State) (i : ℕ) (w : How) (c u : ℕ) → IsWaitingAt s.requests i →
    t.requests ≡ with_service i w c u s.requests → Given s t i
given_so s t i w c u z e =
    let r = z.open_at.one in
    let k : numbered t.requests i ≡ Some (record r { how = w; context = Some c; used = u }) =
    ap (λ rs. numbered rs i) e ∙ service_here i w c u s.requests r z.open_at.entry in (
      open_so t i _ k ∙ z.open_at.stands,
      function_so t i _ k ∙ sym (function_so s i r z.open_at.entry),
    )

-- # An idle context is taken

take_given : (s : State) (c i : ℕ) → legal.may_take s c i ≡ true →
    Given s (legal.after_take s c i) i
unfolding legal.after_take
take_given s c i m = given_so s _ i how.Hot c (legal.answered_by s c)
    (waiting_is s i (take_waits s c i m)) refl

take_context : (s : State) (c i : ℕ) (x : ContextState) → numbered s.contexts c ≡ Some x →
    numbered (legal.after_take s c i).contexts c ≡ Some (record x { duty = Serves i })
unfolding legal.after_take
take_context s c i x h = duty_here c (Serves i) s.contexts x h

take_owes : (s : State) (c i : ℕ) → legal.may_take s c i ≡ true →
    owes_nothing (legal.after_take s c i).owed ≡ true
unfolding legal.after_take legal.may_take
take_owes s c i m = and_first _ _ (and_first _ _ m)

-- what was taken serves the request
pub taken_serves : (sizes : Extents) (s : State) (c i : ℕ) (t : State) (x : ContextState) →
    after sizes s (Take c i) ≡ Some t → numbered s.contexts c ≡ Some x →
    IsServing t i c (record x { duty = Serves i })
taken_serves sizes s c i t x h e = let r = stood _ _ t h in
    let P : State → Type 0 = λ z. IsServing z i c (record x { duty = Serves i }) in
    subst P r.1 (record {
      work = record {
        context = take_context s c i x e;
        duty = refl;
        open_one = (take_given s c i r.0).0;
      };
      owes = take_owes s c i r.0;
    })

-- the request's function stays
pub taken_function : (sizes : Extents) (s : State) (c i : ℕ) (t : State) →
    after sizes s (Take c i) ≡ Some t →
    legal.request_function t i ≡ legal.request_function s i
taken_function sizes s c i t h = let r = stood _ _ t h in
    let P : State → Type 0 =
    λ z. legal.request_function z i ≡ legal.request_function s i in
    subst P r.1 (take_given s c i r.0).1

-- what the context served stays
pub taken_served : (sizes : Extents) (es : List Event) (s : State) (c i : ℕ) (t : State) →
    after_all sizes (at_first sizes) es ≡ Some s → after sizes s (Take c i) ≡ Some t →
    served t c ≡ served s c
taken_served sizes es s c i t h k = grows sizes es s t (Take c i) c h k

passes_at : (b : Bool) (p : ℕ → Bool) (x c : ℕ) (xs : List ℕ) → p x ≡ b →
    (find p xs ≡ Some c → p c ≡ true) → cond b (Some x) (find p xs) ≡ Some c → p c ≡ true
passes_at true p x c xs e f h = ap p (sym (same_Some x c h)) ∙ e
passes_at false p x c xs e f h = f h

passes : (p : ℕ → Bool) (xs : List ℕ) (c : ℕ) → find p xs ≡ Some c → p c ≡ true
passes p [] c h = absurd (none-some c h)
passes p (x ∷ xs) c h = passes_at (p x) p x c xs refl (passes p xs c) h

first_passes : (f : ℕ) (xs : List ContextState) (idle : List ℕ) (c : ℕ) →
    legal.first_for f xs idle ≡ Some c → legal.is_for_one f (numbered xs c) ≡ true
unfolding legal.first_for
first_passes f xs idle c h = passes _ idle c h

take_first : (s : State) (c i : ℕ) → legal.may_take s c i ≡ true →
    legal.first_for (legal.request_function s i) s.contexts s.idle ≡ Some c
unfolding legal.may_take
take_first s c i m = just _ c (and_second _ _ m)

-- the first context for a function is one of that function
pub first_is_for : (f : ℕ) (s : State) (c : ℕ) (x : ContextState) →
    legal.first_for f s.contexts s.idle ≡ Some c → numbered s.contexts c ≡ Some x →
    x.function ≡ f
first_is_for f s c x h e =
    same x.function f (sym (ap (legal.is_for_one f) e) ∙ first_passes f s.contexts s.idle c h)

-- what was taken is for the request's function
pub taken_is_for : (sizes : Extents) (s : State) (c i : ℕ) (t : State) (x : ContextState) →
    after sizes s (Take c i) ≡ Some t → numbered s.contexts c ≡ Some x →
    x.function ≡ legal.request_function s i
taken_is_for sizes s c i t x h e =
    first_is_for (legal.request_function s i) s c x (take_first s c i (stood _ _ t h).0) e

-- # One is deployed

deploy_given : (sizes : Extents) (s : State) (c : ℕ) (k : Option ℕ) (i n : ℕ) →
    legal.may_deploy sizes s c k i n ≡ true → Given s (legal.after_deploy sizes s c k i n) i
unfolding legal.after_deploy
deploy_given sizes s c k i n m = given_so s _ i
    (legal.deployed_how (stack_of sizes (legal.request_function s i)) k) c 0
    (waiting_is s i (deploy_quiet sizes s c k i n m).1) refl

deploy_context : (sizes : Extents) (s : State) (c : ℕ) (k : Option ℕ) (i n : ℕ) →
    legal.may_deploy sizes s c k i n ≡ true →
    numbered (legal.after_deploy sizes s c k i n).contexts c ≡ Some (deployed_context s k i)
unfolding legal.after_deploy
deploy_context sizes s c k i n m =
    ap (λ j. numbered (s.contexts ++ deployed_context s k i ∷ []) j)
    (next_context sizes s c k i n m)
    ∙ pushed_here s.contexts (deployed_context s k i)

deploy_owes : (sizes : Extents) (s : State) (c : ℕ) (k : Option ℕ) (i n : ℕ) →
    legal.may_deploy sizes s c k i n ≡ true →
    owes_nothing (legal.after_deploy sizes s c k i n).owed ≡ true
unfolding legal.after_deploy
deploy_owes sizes s c k i n m = (deploy_quiet sizes s c k i n m).0

-- what was deployed serves the request
pub deployed_serves : (sizes : Extents) (s : State) (c : ℕ) (k : Option ℕ) (i n : ℕ)
    (t : State) → after sizes s (Deploy c k i n) ≡ Some t →
    IsServing t i c (deployed_context s k i)
deployed_serves sizes s c k i n t h = let r = stood _ _ t h in
    let P : State → Type 0 = λ z. IsServing z i c (deployed_context s k i) in
    subst P r.1 (record {
      work = record {
        context = deploy_context sizes s c k i n r.0;
        duty = refl;
        open_one = (deploy_given sizes s c k i n r.0).0;
      };
      owes = deploy_owes sizes s c k i n r.0;
    })

-- the request's function stays
pub deployed_function : (sizes : Extents) (s : State) (c : ℕ) (k : Option ℕ) (i n : ℕ)
    (t : State) → after sizes s (Deploy c k i n) ≡ Some t →
    legal.request_function t i ≡ legal.request_function s i
deployed_function sizes s c k i n t h = let r = stood _ _ t h in
    let P : State → Type 0 =
    λ z. legal.request_function z i ≡ legal.request_function s i in
    subst P r.1 (deploy_given sizes s c k i n r.0).1

none_served : (s : State) (c : ℕ) → legal.answered_by s c ≡ 0 → served s c ≡ []
unfolding served answers_below
none_served s c h = ap (λ u. answers_below c u s.requests) h

-- it served none yet
pub deployed_served : (sizes : Extents) (s : State) (c : ℕ) (k : Option ℕ) (i n : ℕ)
    (t : State) → after sizes s (Deploy c k i n) ≡ Some t → served t c ≡ []
deployed_served sizes s c k i n t h = none_served t c
    (answered_by_so t c _ (deployed_serves sizes s c k i n t h).work.context)
