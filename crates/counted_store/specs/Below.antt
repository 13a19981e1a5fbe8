-- Where nothing may be written.
use Rattle.std.specs.Prelude.{◌≡◌, ℕ, ◌≤◌, false}
use Rattle.image_model.specs.Pages.{page_limit}
use Rattle.space_api.specs.Flat.{Flat}

-- nothing may be written at or above the limit
abbrev pub IsBelow : Flat → Type 0
IsBelow flat = (page : ℕ) → page_limit ≤ page → (flat.permissions page).writable ≡ false
