-- What the first request of a book asks.
use Rattle.std.specs.Prelude.{◌≡◌, ℕ, ◌≤◌, ◌<◌, Some, length}
use Rattle.journal_model.specs.Extents.{Extents}

-- there may be a request, its function is there, and the clock shows what it is to show
pub record MayBeFirst (sizes : Extents) (f t : ℕ) : Type 0 where
  pub some : 1 ≤ sizes.requests
  pub there : f < length sizes.stacks
  pub clock : sizes.clock ≡ Some t
