-- What a space that counts frames means.
use Rattle.std.specs.Prelude.{◌≡◌, ℕ, ◌≤◌}
use Rattle.space_api.specs.Flat.{Flat}
use Rattle.space_api.specs.Frames.{spares_limit}
use Rattle.plain_space.specs.PlainSpace as plain
use Rattle.counted_space.specs.Counted.{marked_flat}
use Rattle.counted_space.specs.Marks.{is_marked}
use Rattle.counted_store.specs.Below.{IsBelow}
use Rattle.counted_store.specs.declared.counted.Counted.{Counted}

-- the space below, with the pages that are listed here
abbrev pub flat_in : Counted → Flat
flat_in counted = marked_flat (plain.flat counted.plain) counted.pages.items

-- few spares, nothing may be written at or above the limit, and the pages that are listed are those
-- that were written
pub record IsCounted (counted : Counted) : Type 0 where
  pub few : counted.spares ≤ spares_limit
  pub below : IsBelow (plain.flat counted.plain)
  pub same : (page : ℕ) → (plain.flat counted.plain).written page
      ≡ is_marked counted.pages.items page
