-- A request that was started waits.
use Rattle.std.proofs.Common.{◌≡◌, ℕ, ◌+◌, true, [], ◌∷◌, ◌++◌, length, refl, ◌∙◌, ap}
use Rattle.book_log.specs.declared.started.Started.{Started}
use Rattle.book_model.specs.Shared.{Shared}
use Rattle.journal_model.specs.Legal.{after_start, is_waiting, may_start, request_function}
use Rattle.journal_model.specs.Reads.{service_of}
use Rattle.journal_model.specs.State.{State}
use Rattle.journal_model.specs.declared.event.Event.TheVariants.{Start}
use Rattle.line_laws.proofs.Known.{started_is_known}
use Rattle.request_service.specs.Starting.{Starts}
use Rattle.service_laws.proofs.Starting.{started_waits}

module _ {C L H : Type 0} where
  pub one_starts : (one : Started) (i : ℕ) (old new : Shared C L H) →
      may_start old.sizes old.state (length old.started + 1) one.function one.given.clock ≡ true →
      i ≡ length old.started + 1 → new ≡ record old {
        events = old.events
            ++ Start (length old.started + 1) one.function one.given.clock ∷ [];
        state = after_start old.state one.function one.given.clock;
        started = old.started ++ one ∷ [];
      } → Starts one (record { i = i; function = one.function }) old new
  one_starts one i old new may number new_is =
      let f = one.function in
      let k = one.given.clock in
      let n = length old.started + 1 in
      let w = started_waits old.sizes old.state n f k may in
      let state_is : new.state ≡ after_start old.state f k =
      ap (λ (b : Shared C L H). b.state) new_is in record {
        number_is = number;
        function_is = refl;
        new_is = new_is;
        waits = record {
          waiting = ap (λ (s : State). is_waiting s i) state_is
              ∙ (ap (λ m. is_waiting (after_start old.state f k) m) number ∙ w.0);
          for_function = ap (λ (s : State). request_function s i) state_is
              ∙ (ap (λ m. request_function (after_start old.state f k) m) number ∙ w.1);
          known = ap (λ (s : State). service_of s i) state_is
              ∙ (ap (λ m. service_of (after_start old.state f k) m) number
              ∙ started_is_known old.sizes old.state n f k may);
        };
      }
