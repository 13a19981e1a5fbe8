-- Numbers that grow too large.
use Rattle.std.proofs.Common.{◌≡◌, ℕ, ◌≤◌, ◌+◌, ◌-◌, ◌*◌, ◌^◌, List, [], ◌∷◌, Bool, true, false}
use Rattle.std.proofs.Common.{Option, None, arith, refl, cond}
use Rattle.std.proofs.lemmas.Bool.Decides.{nat_tests}
use Rattle.std.specs.Char.{is_ascii_digit}
use Rattle.event_text.specs.Reading.{digits_of, fitting}

at_digit : (b : Bool) (o : Option ℕ) → fitting o ≡ None → fitting (cond b o None) ≡ None
at_digit true o h = h
at_digit false o h = refl

-- what is too large stays so with more digits
pub too_large : (n : ℕ) (cs : List ℕ) → 2 ^ 64 ≤ n → fitting (digits_of n cs) ≡ None
too_large n [] h = grind (arith, nat_tests)
too_large n (c ∷ cs) h = at_digit (is_ascii_digit c) _
    (too_large (n * 10 + (c - 48)) cs (omega arith))
