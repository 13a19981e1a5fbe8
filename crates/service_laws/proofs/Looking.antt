-- What is asked of a request or a context, from what stands under its number.
use Rattle.std.proofs.Common.{◌≡◌, ℕ, ◌==◌, ◌&&◌, Bool, true, false, List, Option, Some}
use Rattle.std.proofs.Common.{◌∙◌, ap, is_none}
use Rattle.journal_model.specs.Extents.{Extents}
use Rattle.journal_model.specs.State.{State, numbered, is_just, stack_of, layer_above}
use Rattle.journal_model.specs.Legal as legal
use Rattle.journal_model.specs.Legal.{with_duty, with_layer, with_used, with_service}
use Rattle.journal_model.specs.Legal.{with_standing, is_open_standing}
use Rattle.journal_model.specs.declared.answer.How.{How}
use Rattle.journal_model.specs.declared.state.Standing.{Standing}
use Rattle.journal_model.specs.declared.state.RequestState.{RequestState}
use Rattle.journal_model.specs.declared.state.ContextState.{ContextState}
use Rattle.journal_model.specs.declared.state.Duty.{Duty}
use Rattle.journal_model.specs.declared.state.Duty.TheVariants.{Serves}
use Rattle.journal_laws.proofs.Numbers.{changed_here}
use Rattle.journal_laws.proofs.Serving.{duty_serves}
use Rattle.journal_laws.proofs.Ties.{duty_at, self}

pub both : (a b : Bool) → a ≡ true → b ≡ true → (a && b) ≡ true
both true b h k = k
both false b h k = absurd (cc)

pub is_same : (m n : ℕ) → m ≡ n → (m == n) ≡ true
is_same m n h = ap (λ k. k == n) h ∙ self n

pub is_that : (o : Option ℕ) (n : ℕ) → o ≡ Some n → is_just o n ≡ true
is_that o n h = ap (λ p. is_just p n) h ∙ self n

-- # What stands under a number after a change

pub duty_here : (c : ℕ) (d : Duty) (xs : List ContextState) (x : ContextState) →
    numbered xs c ≡ Some x → numbered (with_duty c d xs) c ≡ Some (record x { duty = d })
unfolding with_duty
duty_here c d xs x h = changed_here (λ (y : ContextState). record y { duty = d }) c xs x h

pub layer_here : (c k : ℕ) (xs : List ContextState) (x : ContextState) →
    numbered xs c ≡ Some x → numbered (with_layer c k xs) c ≡ Some (record x { layer = Some k })
unfolding with_layer
layer_here c k xs x h = changed_here (λ (y : ContextState). record y { layer = Some k }) c xs x h

pub used_here : (c n : ℕ) (xs : List ContextState) (x : ContextState) →
    numbered xs c ≡ Some x → numbered (with_used c n xs) c ≡ Some (record x { used = n })
unfolding with_used
used_here c n xs x h = changed_here (λ (y : ContextState). record y { used = n }) c xs x h

pub service_here : (i : ℕ) (w : How) (c u : ℕ) (rs : List RequestState) (r : RequestState) →
    numbered rs i ≡ Some r →
    numbered (with_service i w c u rs) i
    ≡ Some (record r { how = w; context = Some c; used = u })
unfolding with_service
service_here i w c u rs r h =
    changed_here (λ (q : RequestState). record q { how = w; context = Some c; used = u }) i rs r h

pub standing_here : (i : ℕ) (z : Standing) (p : Option ℕ) (rs : List RequestState)
    (r : RequestState) → numbered rs i ≡ Some r →
    numbered (with_standing i z p rs) i ≡ Some (record r { standing = z; place = p })
unfolding with_standing
standing_here i z p rs r h =
    changed_here (λ (q : RequestState). record q { standing = z; place = p }) i rs r h

-- # Requests

pub open_so : (s : State) (i : ℕ) (r : RequestState) → numbered s.requests i ≡ Some r →
    legal.is_open s i ≡ is_open_standing r.standing
unfolding legal.is_open
open_so s i r h = ap legal.is_open_one h

pub function_so : (s : State) (i : ℕ) (r : RequestState) → numbered s.requests i ≡ Some r →
    legal.request_function s i ≡ r.function
unfolding legal.request_function
function_so s i r h = ap legal.function_of_one h

pub waiting_so : (s : State) (i : ℕ) (r : RequestState) → numbered s.requests i ≡ Some r →
    legal.is_waiting s i ≡ (is_open_standing r.standing && is_none r.context)
unfolding legal.is_waiting
waiting_so s i r h = ap legal.is_waiting_one h

-- # Contexts

pub serves_so : (s : State) (c i : ℕ) (x : ContextState) → numbered s.contexts c ≡ Some x →
    x.duty ≡ Serves i → legal.serves s c i ≡ true
serves_so s c i x h d = duty_serves s c i (ap duty_at h ∙ ap (λ e. Some e) d)

pub served_by_so : (s : State) (c i : ℕ) (x : ContextState) → numbered s.contexts c ≡ Some x →
    x.duty ≡ Serves i → legal.served_by s c ≡ i
unfolding legal.served_by
served_by_so s c i x h d = ap legal.served_by_one h ∙ ap legal.served_by_duty d

pub answered_by_so : (s : State) (c : ℕ) (x : ContextState) → numbered s.contexts c ≡ Some x →
    legal.answered_by s c ≡ x.used
unfolding legal.answered_by
answered_by_so s c x h = ap legal.answered_by_one h

pub has_answered_so : (s : State) (c : ℕ) (x : ContextState) → numbered s.contexts c ≡ Some x →
    legal.has_answered s c x.used ≡ true
unfolding legal.has_answered
has_answered_so s c x h = ap (legal.used_one x.used) h ∙ self x.used

pub place_so : (s : State) (c : ℕ) (x : ContextState) → numbered s.contexts c ≡ Some x →
    legal.place_of s c ≡ x.layer
unfolding legal.place_of
place_so s c x h = ap legal.place_of_one h

-- the layer directly above a context's place is that above its layer in its function's stack
pub above_so : (sizes : Extents) (s : State) (c : ℕ) (x : ContextState) →
    numbered s.contexts c ≡ Some x →
    legal.above sizes s c ≡ layer_above x.layer (stack_of sizes x.function)
unfolding legal.above
above_so sizes s c x h = ap (legal.above_one sizes) h
