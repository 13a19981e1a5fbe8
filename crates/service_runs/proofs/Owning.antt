-- What a request was given stands at its number.
use Rattle.std.proofs.Common.{◌≡◌, ℕ, ◌-◌, ◌≤◌, ◌<◌, ◌==◌, Bool, true, false, List, Option, None}
use Rattle.std.proofs.Common.{Some, IsSome, IfOk, Result, Ok, Err, length, get_or}
use Rattle.std.proofs.Common.{slice_get, option_map, cond, arith, refl, sym, ◌∙◌, ap, subst}
use Rattle.std.proofs.lemmas.Bool.Decides.{nat_tests}
use Rattle.std.proofs.lemmas.Option.{get_or_from_slice_get, slice_get_within}
use Rattle.book_log.specs.declared.started.Started.{Started}
use Rattle.journal_model.specs.State.{numbered}
use Rattle.service_model.specs.Going.{given_in}
use Rattle.space_api.specs.declared.given.Given.{Given}

abbrev given_of : Option Started → Option Given
given_of o = option_map (λ (one : Started). one.given) o

some_so : (b : Bool) (x : Option Started) → IsSome (given_of (cond b None x)) → b ≡ false
some_so true x h = cc
some_so false x h = refl

given_so : (b : Bool) (x : Option Started) → b ≡ false →
    given_of (cond b None x) ≡ given_of x
given_so true x e = cc
given_so false x e = refl

no_zero : (i : ℕ) → (i == 0) ≡ false → 1 ≤ i
no_zero i e = grind (arith, nat_tests, e)

-- a request that was started has a number
pub some_number : (started : List Started) (i : ℕ) → IsSome (given_in started i) → 1 ≤ i
unfolding numbered
some_number started i h = no_zero i (some_so (i == 0) (slice_get started (i - 1)) h)

-- and stands there
given_there : (started : List Started) (i : ℕ) → IsSome (given_in started i) →
    given_in started i ≡ given_of (slice_get started (i - 1))
unfolding numbered
given_there started i h = given_so (i == 0) (slice_get started (i - 1))
    (some_so (i == 0) (slice_get started (i - 1)) h)

one_there : (o : Option Started) → IsSome (given_of o) → (one : Started) × (o ≡ Some one)
one_there None h = cc
one_there (Some one) h = (one, refl)

started_there : (started : List Started) (i : ℕ) → IsSome (given_in started i) →
    (one : Started) × (slice_get started (i - 1) ≡ Some one)
started_there started i h = one_there (slice_get started (i - 1))
    (subst (λ o. IsSome o) (given_there started i h) h)

pub is_within : (started : List Started) (i : ℕ) → IsSome (given_in started i) →
    i - 1 < length started
is_within started i h = let one = started_there started i h in
    slice_get_within started (i - 1) one.0 one.1

given_read : (started : List Started) (i : ℕ) (d : Started) → IsSome (given_in started i) →
    given_in started i ≡ Some (get_or started (i - 1) d).given
given_read started i d h = let one = started_there started i h in
    given_there started i h ∙ (ap given_of one.1
    ∙ ap (λ (x : Started). Some x.given)
    (sym (get_or_from_slice_get started (i - 1) one.0 d one.1)))

-- a copy of it is what the request was given
pub copied_own : {E : Type 0} (started : List Started) (i : ℕ) (d : Started)
    (r : Result Given E) → IsSome (given_in started i) →
    IfOk r (λ given. given ≡ (get_or started (i - 1) d).given) →
    IfOk r (λ given. given_in started i ≡ Some given)
copied_own started i d (Ok given) h same = given_read started i d h ∙ ap Some (sym same)
copied_own started i d (Err e) h same = tt
