-- Runs of pages with equal permissions.
use Rattle.std.specs.Prelude.{◌≡◌, ℕ, ◌<◌, ◌≤◌}
use Rattle.image_model.specs.Pages.{page_limit}
use Rattle.image_model.specs.Permission.{Permission}

-- the pages from one up to another have equal permissions, and the next, if any, has another
pub record IsRun (f : ℕ → Permission) (page end : ℕ) : Type 0 where
  pub later : page < end
  pub within : end ≤ page_limit
  pub same : (q : ℕ) → page ≤ q → q < end → f q ≡ f page
  pub apart : end < page_limit → f end ≡ f page → ⊥
