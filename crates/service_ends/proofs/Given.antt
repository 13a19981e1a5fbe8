-- What an open request was given.
use Rattle.std.proofs.Common.{◌≡◌, ℕ, zero, suc, ◌-◌, ◌==◌, Bool, true, false, List, [], ◌∷◌, map}
use Rattle.std.proofs.Common.{None, Some, slice_get, option_map, cond, refl, ap}
use Rattle.book_log.specs.Logged.{key_of_request, key_of_started}
use Rattle.book_log.specs.declared.started.Started.{Started}
use Rattle.journal_laws.proofs.Naming.{open_is}
use Rattle.journal_model.specs.Legal.{is_open}
use Rattle.journal_model.specs.State.{State, numbered}
use Rattle.journal_model.specs.declared.state.RequestState.{RequestState}
use Rattle.service_model.specs.Going.{given_in}
use Rattle.space_api.specs.declared.given.Given.{Given}

same_rest : {A : Type 0} (x y : A) (xs ys : List A) → x ∷ xs ≡ y ∷ ys → xs ≡ ys
same_rest x y xs ys e = cc

started_at : (started : List Started) (rs : List RequestState) →
    map key_of_started started ≡ map key_of_request rs → (k : ℕ) (r : RequestState) →
    slice_get rs k ≡ Some r → (one : Started) × (slice_get started k ≡ Some one)
started_at [] [] keys k r e = cc
started_at [] (q ∷ qs) keys k r e = cc
started_at (one ∷ more) [] keys k r e = cc
started_at (one ∷ more) (q ∷ qs) keys zero r e = (one, refl)
started_at (one ∷ more) (q ∷ qs) keys (suc k) r e =
    started_at more qs (same_rest (key_of_started one) (key_of_request q)
    (map key_of_started more) (map key_of_request qs) keys) k r e

started_numbered : (b : Bool) (started : List Started) (rs : List RequestState) →
    map key_of_started started ≡ map key_of_request rs → (k : ℕ) (r : RequestState) →
    cond b None (slice_get rs k) ≡ Some r → (own : Given)
    × (option_map (λ (one : Started). one.given) (cond b None (slice_get started k)) ≡ Some own)
started_numbered true started rs keys k r e = cc
started_numbered false started rs keys k r e = let one = started_at started rs keys k r e in
    (one.0.given, ap (option_map (λ (x : Started). x.given)) one.1)

-- an open request was started with its packet and clock
pub own_there : (started : List Started) (s : State) (i : ℕ) →
    map key_of_started started ≡ map key_of_request s.requests → is_open s i ≡ true →
    (own : Given) × (given_in started i ≡ Some own)
unfolding numbered
own_there started s i keys h = let o = open_is s i h in
    started_numbered (i == 0) started s.requests keys (i - 1) o.one o.entry
