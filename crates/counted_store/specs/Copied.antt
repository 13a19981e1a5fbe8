-- How a capture of copied pages ends.
use Rattle.std.specs.Prelude.{◌≡◌, ℕ, true}
use Rattle.image_model.specs.Pages.{page_limit}
use Rattle.machine_model.specs.Machine.{count_below}
use Rattle.space_api.specs.Stores.{frozen}
use Rattle.space_api.specs.declared.given.Captured.{Captured}
use Rattle.space_api.specs.declared.given.Captured.TheVariants.{Done, NeedFrames, Memory}
use Rattle.plain_space.specs.PlainFrozen as memory
use Rattle.plain_space.specs.PlainSpace as plain
use Rattle.plain_space.specs.declared.frozen.PlainFrozen.{PlainFrozen}
use Rattle.plain_space.specs.declared.space.PlainSpace.{PlainSpace}

-- the space goes on with nothing written, above what it had
pub record WentOn (old : PlainSpace) (kept : PlainFrozen) (new : PlainSpace) (pages : ℕ)
    : Type 0 where
  pub kept_is : memory.flat kept ≡ frozen (plain.flat old)
  pub flat_is : plain.flat new ≡ frozen (plain.flat old)
  pub finished : plain.finished new ≡ true
  pub counted : pages ≡ count_below (plain.flat old).written page_limit

-- the space is as it was
pub record IsSame (old new : PlainSpace) : Type 0 where
  pub flat_is : plain.flat new ≡ plain.flat old
  pub finished : plain.finished new ≡ true

-- frames are never wanted
abbrev pub IsCopied : PlainSpace → Captured PlainFrozen PlainSpace → Type 0
IsCopied old (Done kept new pages) = WentOn old kept new pages
IsCopied old (NeedFrames new) = ⊥
IsCopied old (Memory new) = IsSame old new
