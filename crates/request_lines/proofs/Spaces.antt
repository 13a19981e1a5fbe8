-- A line with a space.
use Rattle.std.proofs.Common.{◌≡◌, ◌≢◌, ℕ, suc, ◌+◌, ◌<◌, List, [], ◌∷◌, length, Bool, true, false}
use Rattle.std.proofs.Common.{cond, not, arith, refl, ◌∙◌}
use Rattle.std.proofs.lemmas.List.Sums.{sum_by-cons, prefix_len-le-length}
use Rattle.std.specs.List.{position_or_len, count_by}

none_in_front : (test : Bool) (place size count : ℕ) → (place ≡ size → count ≡ 0)
    → cond (not test) (1 + place) 0 ≡ suc size → cond test 1 0 + count ≡ 0
none_in_front true place size count more e = absurd (omega arith)
none_in_front false place size count more e =
    let none : count ≡ 0 = more (omega arith) in omega arith

-- where no byte passes, none is counted
none_counted : (p : ℕ → Bool) (line : List ℕ) → position_or_len p line ≡ length line
    → count_by p line ≡ 0
none_counted p [] none = refl
none_counted p (b ∷ bs) none =
    let more = none_counted p bs in
    sum_by-cons (λ x. cond (p x) 1 0) b bs
    ∙ none_in_front (p b) (position_or_len p bs) (length bs) (count_by p bs) more none

-- where one byte passes, it stands in the line
pub stands : (p : ℕ → Bool) (line : List ℕ) → count_by p line ≡ 1
    → position_or_len p line < length line
stands p line one =
    let short = prefix_len-le-length (λ b. not (p b)) line in
    let before : position_or_len p line ≢ length line = λ all. (
    let none : count_by p line ≡ 0 = none_counted p line all in omega arith
    ) in
    omega arith
