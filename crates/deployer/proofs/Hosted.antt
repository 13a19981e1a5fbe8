-- What was taken or deployed serves the request.
use Rattle.std.proofs.Common.{◌≡◌, ℕ, List, [], ◌∷◌}
use Rattle.std.proofs.Common.{IfOk, MatchOption, Result, Ok, Err}
use Rattle.std.proofs.Common.{Option, None, Some, IfSome, sym}
use Rattle.std.proofs.Common.{◌∙◌, ap, subst, inl}
use Rattle.book_model.specs.Kept.{IsNoted, IsWaiting, givens}
use Rattle.book_model.specs.Shared.{Shared}
use Rattle.book_model.specs.Steps.{FindsNone, Takes}
use Rattle.context_uc.specs.Views.{ContextView, parked_of}
use Rattle.deployer.specs.Grounds.{IsContextOf}
use Rattle.deployer.specs.Hosting.{Telling, Hosts, TakesHost}
use Rattle.deployer.proofs.Going.{went_one}
use Rattle.journal_model.specs.Legal.{after_all, at_first, first_for, request_function}
use Rattle.journal_model.specs.Reads.{served}
use Rattle.journal_model.specs.declared.event.Event.TheVariants.{Take}
use Rattle.journal_model.specs.declared.state.ContextState.{ContextState}
use Rattle.journal_model.specs.declared.state.Duty.{Duty}
use Rattle.journal_model.specs.declared.state.Duty.TheVariants.{Serves}
use Rattle.machine_model.specs.declared.packet.Memory.{Memory}
use Rattle.plan_model.specs.Outline.{Outline}
use Rattle.service_laws.proofs.Giving.{taken_serves, taken_function, taken_served}
use Rattle.service_model.specs.Going.{WentBy}
use Rattle.space_api.specs.Told.{ParkedContext}
use Rattle.space_api.specs.declared.given.Given.{Given}

-- the duty of a context is no part of what it tells
duty_apart : (x : ContextState) (d : Duty) (c : ℕ) (answered : List (Option Given))
    (told : ParkedContext) → IsNoted x c answered told →
    IsNoted (record x { duty = d }) c answered told
duty_apart x d c answered told n = record {
  number = n.number;
  for_function = n.for_function;
  place = n.place;
  bare = n.bare;
  in_order = n.in_order;
}

module _ {S L H : Type 0} (plan : Outline) (telling : Telling S) where
  -- a context that was taken serves the request
  pub taken_hosts : (i f : ℕ) (c : ContextView S) (old new : Shared (ContextView S) L H) →
      after_all old.sizes (at_first old.sizes) old.events ≡ Some old.state →
      (is_context : ContextView S → Type 0) →
      ((x : ContextView S) → is_context x → IsContextOf plan x) →
      is_context c × IsWaiting old.state old.started c.id f (parked_of telling.spares c)
      (telling.pin c.space) → request_function old.state i ≡ f → Takes i c.id c old new →
      Hosts plan telling i c new
  taken_hosts i f c old new reached is_context to told r t = record {
    in_service = record { is_usable = of.is_usable; stands = inl of.at_top };
    state = record w.state { duty = Serves i };
    serving = taken_serves old.sizes old.state c.id i new.state w.state t.legal w.state_is;
    function_is = taken_function old.sizes old.state c.id i new.state t.legal
        ∙ (r ∙ sym w.function_is);
    noted = duty_apart w.state (Serves i) c.id _ _ (subst (λ gs. IsNoted w.state c.id gs
        (parked_of telling.spares c)) answered w.noted);
    loose = w.loose;
  } where
    of : IsContextOf plan c
    of = to c told.0

    w : IsWaiting old.state old.started c.id f (parked_of telling.spares c) (telling.pin c.space)
    w = told.1

    answered : givens old.started (served old.state c.id)
        ≡ givens new.started (served new.state c.id)
    answered = ap (λ (b : Shared (ContextView S) L H). givens b.started (served old.state c.id))
        (sym t.new_is)
        ∙ ap (λ ns. givens new.started ns) (sym (taken_served old.sizes old.events old.state
        c.id i new.state reached t.legal))

  -- and the book went on by its event
  pub taken_went : (i : ℕ) (c : ContextView S) (old new : Shared (ContextView S) L H) →
      Takes i c.id c old new → WentBy (Take c.id i ∷ []) old new
  taken_went i c old new t = went_one (Take c.id i) old new
      (ap (λ (b : Shared (ContextView S) L H). b.sizes) t.new_is)
      (ap (λ (b : Shared (ContextView S) L H). b.started) t.new_is) t.legal
      (ap (λ (b : Shared (ContextView S) L H). b.events) t.new_is)

  -- what came of looking for an idle context
  pub took : (i f : ℕ) (old new : Shared (ContextView S) L H) →
      after_all old.sizes (at_first old.sizes) old.events ≡ Some old.state →
      (is_context : ContextView S → Type 0) →
      ((x : ContextView S) → is_context x → IsContextOf plan x) →
      request_function old.state i ≡ f → (r : Result (Option (ContextView S)) Memory) →
      IfOk r (λ found. MatchOption found (FindsNone i old new) (λ c. Takes i c.id c old new)) →
      IfOk r (λ found. IfSome found (λ c. is_context c × IsWaiting old.state old.started c.id f
      (parked_of telling.spares c) (telling.pin c.space))) →
      IfOk r (λ found. TakesHost plan telling i f found old new)
  took i f old new reached is_context to r (Err e) h w = tt
  took i f old new reached is_context to r (Ok None) h w = (
    h.same,
    ap (λ n. first_for n old.state.contexts old.state.idle) (sym r) ∙ h.none,
  )
  took i f old new reached is_context to r (Ok (Some c)) h w = (
    taken_went i c old new h,
    taken_hosts i f c old new reached is_context to w r h,
  )
