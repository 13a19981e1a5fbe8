-- The first place of a list that passes.
use Rattle.std.proofs.Common.{◌≡◌, ℕ, ◌<◌, ◌≤◌, Bool, true, false, List, length, get_or}
use Rattle.std.proofs.lemmas.List.Sums.{position_or_len_is}
use Rattle.std.specs.List.{position_or_len}

pub first : (p : ℕ → Bool) → (xs : List ℕ) (i : ℕ) (d : ℕ) → i ≤ length xs →
    ((k : ℕ) → k < i → p (get_or xs k d) ≡ false) → (i < length xs → p (get_or xs i d) ≡ true) →
    position_or_len p xs ≡ i
first = position_or_len_is
