-- Where no event was appended, a request waits as before, and what closes it then closes it.
use Rattle.std.proofs.Common.{◌≡◌, ℕ, true, IfOk, List, [], None, Option, Result, sym, subst}
use Rattle.batch_model.specs.Replies.{IsLineOf}
use Rattle.book_model.specs.Shared.{Shared}
use Rattle.context_uc.specs.Views.{ContextView}
use Rattle.deployer.proofs.Going.{went_on, went_same}
use Rattle.deployer.specs.Grounds.{IsSizedBy}
use Rattle.deployer.specs.Hosting.{TakesHost, Telling}
use Rattle.journal_model.specs.Legal.{first_for, is_waiting, request_function}
use Rattle.journal_model.specs.Reads.{service_of}
use Rattle.journal_model.specs.State.{State}
use Rattle.journal_model.specs.declared.answer.Answer.{Answer}
use Rattle.journal_model.specs.declared.answer.End.TheVariants as end
use Rattle.journal_model.specs.declared.event.Event.{Event}
use Rattle.machine_model.specs.declared.packet.Memory.{Memory}
use Rattle.plan_model.specs.Outline.{Outline}
use Rattle.request_service.specs.Starting.{Finds, FindsNoMemory}
use Rattle.request_service.specs.Turns.{Closes}
use Rattle.request_service.specs.UnderWay.{Waits, unknown}
use Rattle.request_service.specs.declared.service.Turned.{Turned}
use Rattle.request_service.specs.declared.service.Unserved.{Unserved}
use Rattle.service_model.specs.Going.{WentBy, given_in, wanted_events}
use Rattle.service_model.specs.Staying.{IsSettled, LeavesOthers, TurnsOnly}
use Rattle.stay_laws.proofs.Turning.{ends_there}

module _ {C L H : Type 0} (old mid : Shared C L H) (still : WentBy [] old mid) where
  state_stays : old.state ≡ mid.state
  state_stays = ends_there old.sizes old.state mid.state still.legal

  pub root_stays : old.sizes.root ≡ 0 → mid.sizes.root ≡ 0
  root_stays root = subst (λ z. z.root ≡ 0) (sym still.sizes_stay) root

  pub waits_still : (request : Unserved) → Waits request old → Waits request mid
  waits_still request w = record {
    waiting = subst (λ (s : State). is_waiting s request.i ≡ true) state_stays w.waiting;
    for_function = subst (λ (s : State). request_function s request.i ≡ request.function)
        state_stays w.for_function;
    known = subst (λ (s : State). service_of s request.i ≡ unknown) state_stays w.known;
  }

  closes_still : (plan : Outline) (i : ℕ) (answer : Answer) (events : List Event)
      (new : Shared C L H) → Closes plan i answer events mid new →
      Closes plan i answer events old new
  closes_still plan i answer events new h = record {
    went = went_on [] events old mid new still h.went;
    others = subst (λ (s : State). LeavesOthers i s new.state) (sym state_stays) h.others;
    settled = λ s. h.settled (subst (λ (s : State). IsSettled s) state_stays s);
    parks = h.parks;
    none_built = h.none_built;
    line = subst (λ gs. IsLineOf plan (given_in gs) new.state i answer) still.started_stay h.line;
    now = h.now;
    closed = h.closed;
    turns = subst (λ (s : State). TurnsOnly i h.now s new.state) (sym state_stays) h.turns;
  }

module _ {S L H : Type 0} where
  -- the request found no memory
  pub finds_no_memory : (plan : Outline) (telling : Telling S) (i : ℕ) (answer : Answer)
      (old mid new : Shared (ContextView S) L H) → WentBy [] old mid →
      ((p : Outline) → Closes p i answer (wanted_events i None) mid new) →
      answer.end ≡ end.Memory → FindsNoMemory plan telling i answer old new
  finds_no_memory plan telling i answer old mid new still closes ends = record {
    closes = closes_still old mid still plan i answer (wanted_events i None) new (closes plan);
    end_is = ends;
  }

-- ---- where no context was idle

module _ {S L H : Type 0} (plan : Outline) (telling : Telling S) (i f : ℕ)
    (found : Option (ContextView S)) (old mid : Shared (ContextView S) L H) (is : found ≡ None)
    (taken : TakesHost plan telling i f found old mid) where
  none_taken : TakesHost plan telling i f None old mid
  none_taken = subst (λ o. TakesHost plan telling i f o old mid) is taken

  pub still_there : WentBy [] old mid
  still_there = went_same old mid none_taken.0

  pub sized_still : IsSizedBy plan old.sizes → IsSizedBy plan mid.sizes
  sized_still h = subst (λ z. IsSizedBy plan z) (sym still_there.sizes_stay) h

  pub none_still : first_for f mid.state.contexts mid.state.idle ≡ None
  none_still = subst (λ (b : Shared (ContextView S) L H).
      first_for f b.state.contexts b.state.idle ≡ None) (sym none_taken.0) none_taken.1

  pub finds_still : (new : Shared (ContextView S) L H)
      (r : Result (Turned (ContextView S) S) Memory) →
      IfOk r (λ turned. Finds plan telling i turned mid new) →
      IfOk r (λ turned. Finds plan telling i turned old new)
  finds_still new r h = subst (λ (b : Shared (ContextView S) L H).
      IfOk r (λ turned. Finds plan telling i turned b new)) none_taken.0 h
