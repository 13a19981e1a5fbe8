-- What requests were given, by their numbers.
use Rattle.std.proofs.Common.{◌≡◌, ℕ, ◌+◌, ◌<◌, List, [], ◌∷◌, ◌++◌, length, map, take, get_or}
use Rattle.std.proofs.Common.{Option, Some, option_map, refl, sym, ◌∙◌, ap}
use Rattle.std.proofs.lemmas.List.{map-append, take_more}
use Rattle.journal_model.specs.State.{numbered}
use Rattle.space_api.specs.declared.given.Given.{Given}
use Rattle.book_log.specs.declared.started.Started.{Started}
use Rattle.book_model.specs.Kept.{givens}

-- what one request was given
abbrev given_of : List Started → (number : ℕ) → Option Given
given_of started number = option_map (λ (one : Started). one.given) (numbered started number)

givens_more : (started : List Started) (xs : List ℕ) (n : ℕ) →
    givens started (xs ++ n ∷ []) ≡ givens started xs ++ given_of started n ∷ []
unfolding givens
givens_more started xs n = map-append _ xs (n ∷ [])

-- of no request
pub no_givens : (started : List Started) → [] ≡ givens started []
unfolding givens
no_givens started = refl

-- one request more
pub one_given : (started : List Started) (numbers : List ℕ) (i d : ℕ) (list more : List Given)
    (found : Option Given) (given : Given) → i < length numbers →
    found ≡ given_of started (get_or numbers i d) → Some given ≡ found →
    more ≡ list ++ given ∷ [] → map Some list ≡ givens started (take i numbers) →
    map Some more ≡ givens started (take (i + 1) numbers)
one_given started numbers i d list more found given b f s m h = ap (map Some) m
    ∙ (map-append Some list (given ∷ [])
    ∙ (ap (λ xs. xs ++ Some given ∷ []) h
    ∙ (ap (λ o. givens started (take i numbers) ++ o ∷ []) (s ∙ f)
    ∙ (sym (givens_more started (take i numbers) (get_or numbers i d))
    ∙ ap (givens started) (sym (take_more numbers i d b))))))
