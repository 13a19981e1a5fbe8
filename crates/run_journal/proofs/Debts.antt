-- What is owed after a layer was built, and after a context answered.
use Rattle.std.proofs.Common.{◌≡◌, ℕ, ◌+◌, ◌<◌, ◌≤◌, List, true, false, nat_le, nat_lt, arith, refl}
use Rattle.std.proofs.lemmas.Bool.Decides.{nat_tests}
use Rattle.journal_model.specs.Extents.{Extents}
use Rattle.journal_model.specs.Legal.{owed_after_built, owed_after_answer}
use Rattle.journal_model.specs.State.{contains, is_full}
use Rattle.journal_model.specs.declared.state.Owed.TheVariants.{Dup, EndOrEvict, EndOrPark}

pub built_kept : (sizes : Extents) (kept : List ℕ) (k : ℕ) → contains k kept ≡ true
    → Dup k ≡ owed_after_built sizes kept k
unfolding owed_after_built
built_kept sizes kept k is = rw is refl

one_less : (n : ℕ) → 1 ≤ n → nat_le 1 n ≡ true
one_less n h = grind (arith, nat_tests)

below : (n m : ℕ) → n < m → nat_lt n m ≡ true
below n m h = grind (arith, nat_tests)

-- a context that may be used again, where the idle ones are full
pub answered_full : (sizes : Extents) (idle : List ℕ) (c u : ℕ) → 1 ≤ sizes.idle
    → u + 1 < sizes.uses → is_full sizes.idle idle ≡ true
    → EndOrEvict c ≡ owed_after_answer sizes idle c u
unfolding owed_after_answer
answered_full sizes idle c u some more is =
    rw (one_less sizes.idle some, below (u + 1) sizes.uses more, is) refl

-- and where there is room
pub answered_room : (sizes : Extents) (idle : List ℕ) (c u : ℕ) → 1 ≤ sizes.idle
    → u + 1 < sizes.uses → is_full sizes.idle idle ≡ false
    → EndOrPark c ≡ owed_after_answer sizes idle c u
unfolding owed_after_answer
answered_room sizes idle c u some more is =
    rw (one_less sizes.idle some, below (u + 1) sizes.uses more, is) refl
