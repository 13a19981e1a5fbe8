-- The log of a batch, where events come that start no request.
use Rattle.std.proofs.Common.{◌≡◌, ◌≢◌, ℕ, ◌⊎◌, inl, inr, List, ◌++◌, map}
use Rattle.std.proofs.Common.{Some, sym, ◌∙◌, ap}
use Rattle.std.specs.Prelude.{option_map}
use Rattle.batch_laws.proofs.Numbered.{same_keys}
use Rattle.book_log.specs.Logged.{IsLogged, key_of_request}
use Rattle.book_log.specs.declared.started.Started.{Started}
use Rattle.journal_laws.proofs.Folding.{joined_after}
use Rattle.journal_model.specs.Extents.{Extents}
use Rattle.journal_model.specs.Legal.{after_all, at_first}
use Rattle.journal_model.specs.State.{State, numbered}
use Rattle.journal_model.specs.declared.event.Event.{Event}
use Rattle.journal_model.specs.declared.state.RequestState.{RequestState}
use Rattle.journal_model.specs.declared.state.Standing.{Standing}
use Rattle.journal_model.proofs.Looks.{decide}
use Rattle.service_model.specs.Staying.{TurnsOnly}

same_key : (r q : RequestState) → q.function ≡ r.function → q.clock ≡ r.clock
    → key_of_request q ≡ key_of_request r
same_key r q f k = ap (λ n. (n, q.clock)) f ∙ ap (λ n. (r.function, n)) k

key_at : (i : ℕ) (now : Standing) (s t : State) → TurnsOnly i now s t → (j : ℕ)
    → (j ≡ i) ⊎ (j ≢ i)
    → option_map key_of_request (numbered t.requests j)
    ≡ option_map key_of_request (numbered s.requests j)
key_at i now s t h j (inl e) =
    ap (λ n. option_map key_of_request (numbered t.requests n)) e
    ∙ (ap (option_map key_of_request) h.after_is
    ∙ (ap (λ k. Some k) (same_key h.before h.after h.function h.clock)
    ∙ (sym (ap (option_map key_of_request) h.before_is)
    ∙ sym (ap (λ n. option_map key_of_request (numbered s.requests n)) e))))
key_at i now s t h j (inr d) = ap (option_map key_of_request) (h.others j d)

-- where of the requests only one stands otherwise, each is there as it was started
pub turned_keys : (i : ℕ) (now : Standing) (s t : State) → TurnsOnly i now s t
    → map key_of_request t.requests ≡ map key_of_request s.requests
turned_keys i now s t h = same_keys key_of_request t.requests s.requests h.count
    (λ j. key_at i now s t h j (decide j i))

pub logged_more : (sizes : Extents) (events : List Event) (s : State) (started : List Started)
    (more : List Event) (i : ℕ) (now : Standing) (t : State) → IsLogged sizes events s started
    → after_all sizes s more ≡ Some t → TurnsOnly i now s t
    → IsLogged sizes (events ++ more) t started
logged_more sizes events s started more i now t log on turns = record {
  reached = joined_after sizes (at_first sizes) s events more log.reached ∙ on;
  keys = log.keys ∙ sym (turned_keys i now s t turns);
  few = log.few;
  most = log.most;
}
