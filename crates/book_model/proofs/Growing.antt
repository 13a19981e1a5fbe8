-- What contexts served stays, where a request more is started.
use Rattle.std.proofs.Common.{◌≡◌, ◌≢◌, ℕ, ◌+◌, ◌<◌, zero, suc, true, false, List, [], ◌∷◌, ◌++◌}
use Rattle.std.proofs.Common.{length, map, Option, None, Some, refl, ◌∙◌, ap, arith}
use Rattle.std.specs.List.{AllByRecursion}
use Rattle.std.specs.Prelude.{option_map}
use Rattle.std.proofs.lemmas.Option.{none-some, same_Some}
use Rattle.journal_model.specs.State.{State, numbered}
use Rattle.journal_model.specs.Legal.{answered_by}
use Rattle.journal_model.specs.Reads.{answer_from, answers_below, is_answer_of, with_last, served}
use Rattle.journal_model.specs.declared.state.RequestState.{RequestState}
use Rattle.journal_laws.proofs.Numbers.{pushed_other}
use Rattle.space_api.specs.declared.given.Given.{Given}
use Rattle.book_log.specs.declared.started.Started.{Started}
use Rattle.book_model.specs.Kept.{givens}

-- an answer that is found stands in the list
answer_bound : (c v n : ℕ) (rs : List RequestState) (i : ℕ) → answer_from c v n rs ≡ Some i →
    i < n + length rs
unfolding answer_from
answer_bound c v n [] i h = absurd (none-some i h)
answer_bound c v n (r ∷ rs) i h = (elim (is_answer_of c v r) as (λ b. is_answer_of c v r ≡ b
    → i < n + length (r ∷ rs)) [
      | true ↦ λ t. let h' : Some n ≡ Some i = rw t at h in let e = same_Some n i h' in
          omega (arith, e)
      | false ↦ λ t. let h' : answer_from c v (n + 1) rs ≡ Some i = rw t at h in
          let k = answer_bound c v (n + 1) rs i h' in omega (arith, k)
    ]) refl

abbrev AreBelow : ℕ → List ℕ → Type 0
AreBelow n xs = AllByRecursion (λ (i : ℕ). i < n) xs

last_below : (n : ℕ) (xs : List ℕ) (o : Option ℕ) → AreBelow n xs →
    ((i : ℕ) → o ≡ Some i → i < n) → AreBelow n (with_last xs o)
last_below n [] None h k = tt
last_below n [] (Some i) h k = (k i refl, tt)
last_below n (x ∷ xs) None h k = h
last_below n (x ∷ xs) (Some i) h k = (h.0, last_below n xs (Some i) h.1 k)

answers_bound : (c u : ℕ) (rs : List RequestState) →
    AreBelow (1 + length rs) (answers_below c u rs)
unfolding answers_below
answers_bound c zero rs = tt
answers_bound c (suc v) rs = last_below (1 + length rs) (answers_below c v rs)
    (answer_from c v 1 rs) (answers_bound c v rs) (λ i h. answer_bound c v 1 rs i h)

pub served_bound : (s : State) (c : ℕ) → AreBelow (1 + length s.requests) (served s c)
unfolding served
served_bound s c = answers_bound c (answered_by s c) s.requests

not_next : (i n m : ℕ) → i < 1 + n → m ≡ n → i ≢ m + 1
not_next i n m h e k = absurd (omega (arith, h, e, k))

abbrev given_at : List Started → ℕ → Option Given
given_at started i = option_map (λ (one : Started). one.given) (numbered started i)

-- one request more leaves what was given to those before it
pub givens_grow : (started : List Started) (one : Started) (n : ℕ) (xs : List ℕ) →
    length started ≡ n → AreBelow (1 + n) xs →
    givens (started ++ one ∷ []) xs ≡ givens started xs
unfolding givens
givens_grow started one n [] e h = refl
givens_grow started one n (x ∷ xs) e h =
    let here : given_at (started ++ one ∷ []) x ≡ given_at started x
    = ap (λ o. option_map (λ (z : Started). z.given) o)
    (pushed_other started x one (not_next x n (length started) h.0 e)) in
    let rest = givens_grow started one n xs e h.1 in
    ap (λ y. y ∷ map (given_at (started ++ one ∷ [])) xs) here
    ∙ ap (λ ys. given_at started x ∷ ys) rest
