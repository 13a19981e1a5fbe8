-- What a counted space means.
use Rattle.std.specs.Prelude.{◌≡◌, ℕ, ◌≤◌, false, true, List}
use Rattle.image_model.specs.Pages.{page_limit}
use Rattle.space_api.specs.Flat.{Flat}
use Rattle.space_api.specs.Frames.{spares_limit}
use Rattle.plain_space.specs.PlainSpace as plain
use Rattle.counted_space.specs.Marks.{is_marked}
use Rattle.counted_space.specs.declared.counted.Counted.{Counted}

-- a space whose written pages are those listed
abbrev pub marked_flat : Flat → List ℕ → Flat
marked_flat flat pages = record flat { written = is_marked pages }

-- the space below, with the pages that are listed here
abbrev pub flat_in : Counted → Flat
flat_in counted = marked_flat (plain.flat counted.plain) counted.pages.items

-- few spares, nothing may be written at or above the limit, and the space below may run
pub record IsCounted (counted : Counted) : Type 0 where
  pub few : counted.spares ≤ spares_limit
  pub below : (page : ℕ) → page_limit ≤ page
      → ((plain.flat counted.plain).permissions page).writable ≡ false
  pub finished : plain.finished counted.plain ≡ true
