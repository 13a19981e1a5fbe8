-- What a store makes: frozen memory, spaces above it, and what they hold.
use Rattle.std.specs.Prelude.{◌≡◌, ℕ, zero, suc, ◌+◌, ◌-◌, ◌<◌, ◌≤◌, ◌↔◌, ◌==◌, min, Bool, true}
use Rattle.std.specs.Prelude.{false, ◌||◌, if◌then◌else◌, List, [], ◌∷◌, Option, None, Some, Result}
use Rattle.std.specs.Prelude.{Err}
use Rattle.image_model.specs.Layout.{Layout}
use Rattle.image_model.specs.Pages.{page_limit}
use Rattle.image_model.specs.declared.region.PageBytes.{PageBytes}
use Rattle.machine_model.specs.Loaded.{no_page}
use Rattle.machine_model.specs.Machine.{count_below}
use Rattle.space_api.specs.Flat.{Flat}
use Rattle.space_api.specs.Frames.{frames_of, spares_limit}
use Rattle.space_api.specs.Holding.{Holding, Pin, holding_of, if_taken}
use Rattle.space_api.specs.declared.given.Captured.{Captured}
use Rattle.space_api.specs.declared.given.Captured.TheVariants.{Done, NeedFrames, Memory}
use Rattle.space_api.specs.declared.refused.Refused.{Refused}
use Rattle.space_api.specs.declared.refused.Refused.TheVariants as refused

-- ---- what is told of spaces and of frozen memory

-- its bytes, how many spares it holds, and whether its deploy is finished
pub record Spaced : Type 0 where
  pub flat : Flat
  pub spares : ℕ
  pub finished : Bool

abbrev pub spaced_of : Flat → (spares : ℕ) → (finished : Bool) → Spaced
spaced_of flat spares finished = record { flat = flat; spares = spares; finished = finished }

-- its bytes, and whether it is an opened image
pub record Frozen : Type 0 where
  pub flat : Flat
  pub image : Bool

abbrev pub frozen_of : Flat → (image : Bool) → Frozen
frozen_of flat image = record { flat = flat; image = image }

-- the same bytes, with no page written
abbrev pub frozen : Flat → Flat
frozen flat = record flat { written = no_page }

-- ---- how many frames an image takes

-- the page is one of these
abbrev pub lists_page : List PageBytes → ℕ → Bool
lists_page [] page = false
lists_page (p ∷ ps) page = p.page == page || lists_page ps page

-- the pages that hold a byte of the file, the tables in which they stand, and the root
abbrev pub image_frames : Layout → ℕ
image_frames start = frames_of (lists_page start.pages) + 1

-- ---- answers

-- Frames are wanted exactly where they are taken and fewer are free than are asked for, and memory
-- only where the store may lack it.
pub record RefusesRightly {T : Type 0} (takes lacks : Bool) (free asked : ℕ)
    (result : Result T Refused) : Type 0 where
  pub frames : (result ≡ Err refused.Frames) ↔ ((takes ≡ true) × (free < asked))
  pub memory : result ≡ Err refused.Memory → lacks ≡ true

-- how many spares a space is filled up with
abbrev pub refilled : (takes : Bool) → (spares free : ℕ) → ℕ
refilled takes spares free = if_taken takes (min (spares_limit - spares) free)

-- ---- captures

-- the space goes on above what was captured, with nothing written and, over frames, a spare less
pub record WentOn (takes : Bool) (old new : Spaced) : Type 0 where
  pub flat_is : new.flat ≡ frozen old.flat
  pub finished_is : new.finished ≡ true
  pub spare_goes : old.spares ≡ new.spares + if_taken takes 1

-- what was captured holds what the space held, but for its spares
pub record WasFrozen (takes : Bool) (old : Spaced) (old_held : Holding) (kept : Frozen)
    (kept_held new_held : Holding) : Type 0 where
  pub kept_is : kept ≡ frozen_of (frozen old.flat) false
  pub kept_holds : kept_held ≡ holding_of (if_taken takes 1) kept_held.span None
  pub kept_spans : kept_held.span + old.spares ≤ old_held.span
  pub stake_falls : old_held.stake ≡ new_held.stake + if_taken takes 1
  pub span_stays : new_held.span ≡ old_held.span
  pub pin_stays : new_held.pin ≡ None

-- what is told of the space, and what it holds, are as they were
pub record IsUncaptured (old new : Spaced) (old_held new_held : Holding) : Type 0 where
  pub told : new ≡ old
  pub holding : new_held ≡ old_held

-- a capture of a space ends so
abbrev pub Captures : {Z S : Type 0} → (takes lacks : Bool) → (frozen_told : Z → Frozen) →
    (frozen_held : Z → Holding) → (spaced : S → Spaced) → (space_held : S → Holding) → (old : S) →
    Captured Z S → Type 0
Captures takes lacks frozen_told frozen_held spaced space_held old (Done kept new pages) =
    WentOn takes (spaced old) (spaced new)
    × WasFrozen takes (spaced old) (space_held old) (frozen_told kept) (frozen_held kept)
    (space_held new)
    × (pages ≡ count_below (spaced old).flat.written page_limit)
Captures takes lacks frozen_told frozen_held spaced space_held old (NeedFrames new) =
    (takes ≡ true) × ((spaced old).spares ≡ 0)
    × IsUncaptured (spaced old) (spaced new) (space_held old) (space_held new)
Captures takes lacks frozen_told frozen_held spaced space_held old (Memory new) =
    (lacks ≡ true) × IsUncaptured (spaced old) (spaced new) (space_held old) (space_held new)
