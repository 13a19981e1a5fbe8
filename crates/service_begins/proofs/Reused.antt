-- A request goes on in an idle context that was taken for it.
use Rattle.std.proofs.Common.{◌≡◌, ℕ, List, [], ◌∷◌, length, Option, None, Some}
use Rattle.std.proofs.Common.{refl, sym, ◌∙◌, ap, subst}
use Rattle.std.proofs.lemmas.List.{length-map}
use Rattle.std.proofs.lemmas.Option.{none-some}
use Rattle.book_log.specs.declared.started.Started.{Started}
use Rattle.book_model.specs.Kept.{givens}
use Rattle.book_model.specs.Shared.{Shared}
use Rattle.context_uc.specs.Views.{ContextView}
use Rattle.deployer.specs.Hosting.{Hosts, TakesHost, Telling}
use Rattle.journal_laws.proofs.Ties.{duty_at}
use Rattle.journal_model.specs.Legal.{after_all, at_first}
use Rattle.journal_model.specs.Reads.{service_of, served}
use Rattle.journal_model.specs.State.{numbered}
use Rattle.journal_model.specs.declared.answer.How.TheVariants as how
use Rattle.journal_model.specs.declared.event.Event.TheVariants.{Take}
use Rattle.journal_model.specs.declared.state.ContextState.{ContextState}
use Rattle.journal_model.specs.declared.state.Duty.{Duty}
use Rattle.journal_model.specs.declared.state.Duty.TheVariants.{Idle}
use Rattle.line_laws.proofs.Known.{taken_is_known}
use Rattle.plan_model.specs.Outline.{Outline}
use Rattle.request_service.specs.Starting.{IsFound}
use Rattle.request_service.specs.Turns.{Goes}
use Rattle.request_service.specs.declared.service.Service.{Service}
use Rattle.request_service.specs.declared.service.Work.TheVariants.{Between}
use Rattle.service_laws.proofs.Counting.{served_count}
use Rattle.service_laws.proofs.Giving.{taken_served}
use Rattle.service_model.specs.Going.{WentBy}
use Rattle.stay_laws.proofs.Leaves.{taken_leaves}
use Rattle.stay_laws.proofs.Others.{one_event, taken_duty}
use Rattle.stay_laws.proofs.Settled.{settled_taken}
use Rattle.stay_laws.proofs.Turning.{taken_opens}

-- what has a duty is there
there_at : (o : Option ContextState) (d : Duty) → duty_at o ≡ Some d →
    (x : ContextState) × (o ≡ Some x)
there_at None d h = absurd (none-some d h)
there_at (Some x) d h = (x, refl)

-- so many packets as requests
givens_count : (started : List Started) (numbers : List ℕ) →
    length (givens started numbers) ≡ length numbers
unfolding givens
givens_count started numbers = length-map numbers _

module _ {S L H : Type 0} (plan : Outline) (telling : Telling S) (i : ℕ) (c : ContextView S)
    (old new : Shared (ContextView S) L H)
    (reached : after_all old.sizes (at_first old.sizes) old.events ≡ Some old.state)
    (went : WentBy (Take c.id i ∷ []) old new) where
  taken_goes : Goes plan i (Take c.id i ∷ []) 0 old new
  taken_goes = record {
    went = went;
    others = taken_leaves old.sizes old.events old.state c.id i new.state reached went.legal;
    settled = λ h. settled_taken old.sizes old.state c.id i new.state h went.legal;
    parks = λ ok. tt;
    took_is = refl;
    turns = taken_opens old.sizes old.state c.id i new.state went.legal;
  }

  module _ (hosts : Hosts plan telling i c new) where
    -- it served as many as the journal says
    taken_used : (x : ContextState) → numbered old.state.contexts c.id ≡ Some x →
        x.used ≡ length c.served
    taken_used x is =
        let took = one_event old.sizes old.state (Take c.id i) new.state went.legal in
        sym (served_count old.sizes old.events old.state c.id x reached is)
        ∙ (ap length (sym (taken_served old.sizes old.events old.state c.id i new.state
        reached took))
        ∙ (sym (givens_count new.started (served new.state c.id))
        ∙ (ap length (sym hosts.noted.in_order) ∙ length-map c.served _)))

    taken_known : service_of new.state i
        ≡ record { how = how.Hot; context = c.id; used = length c.served }
    taken_known =
        let took = one_event old.sizes old.state (Take c.id i) new.state went.legal in
        let x = there_at (numbered old.state.contexts c.id) Idle
        (taken_duty old.sizes old.events old.state c.id i new.state reached took) in
        taken_is_known old.sizes old.state c.id i new.state x.0 went.legal x.1
        ∙ ap (λ n. record { how = how.Hot; context = c.id; used = n }) (taken_used x.0 x.1)

    -- the context serves the request, after what it served
    taken_found : (next : Service (ContextView S) S) → next ≡ record {
      origin = record { i = i; how = how.Hot; context = c.id; used = length c.served };
      work = Between c;
    } → IsFound plan telling i next old new
    taken_found next is = subst (λ (s : Service (ContextView S) S).
        IsFound plan telling i s old new) (sym is) (record {
          event = Take c.id i;
          goes = taken_goes;
          number_is = refl;
          under_way = λ ports. record { known = taken_known; at_it = hosts };
        })

-- what was found is the context that was taken
pub found_taken : {S L H : Type 0} (plan : Outline) (telling : Telling S) (i f : ℕ)
    (found : Option (ContextView S)) (c : ContextView S) (old new : Shared (ContextView S) L H) →
    after_all old.sizes (at_first old.sizes) old.events ≡ Some old.state → found ≡ Some c →
    TakesHost plan telling i f found old new → (next : Service (ContextView S) S) → next ≡ record {
      origin = record { i = i; how = how.Hot; context = c.id; used = length c.served };
      work = Between c;
    } → IsFound plan telling i next old new
found_taken plan telling i f found c old new reached is taken next next_is =
    let t = subst (λ o. TakesHost plan telling i f o old new) is taken in
    taken_found plan telling i c old new reached t.0 t.1 next next_is
