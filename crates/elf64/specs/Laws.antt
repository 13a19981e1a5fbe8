-- What holds of every image.
use Rattle.std.specs.Prelude.{◌≡◌, ℕ, ◌+◌, ◌<◌, ◌≤◌, List, [], ◌∷◌, length, Ok}
use Rattle.std.specs.List.{AllByRecursion}
use Rattle.image_model.specs.declared.image.Image.{Image}
use Rattle.image_model.specs.declared.image.Segment.{Segment}
use Rattle.elf64.specs.Elf.{elf}
use Rattle.elf64.specs.Segments.{lowest_address, highest_address}

-- P holds of each image that is a file's
abbrev pub HoldsOfImages : (Image → Type 0) → Type 0
HoldsOfImages P = (bytes : List ℕ) (image : Image) → elf bytes ≡ Ok image → P image

-- a segment has memory, in the addresses of programs, no flags but execute, write and read, and no
-- more file bytes than memory
pub record IsSoundSegment (s : Segment) : Type 0 where
  pub nonempty : 0 < s.size
  pub lowest : lowest_address ≤ s.at
  pub highest : s.at + s.size ≤ highest_address
  pub flags : s.flags ≤ 7
  pub bytes : length s.bytes ≤ s.size

-- the address is one of the segment's
pub record HasAddress (s : Segment) (a : ℕ) : Type 0 where
  pub from : s.at ≤ a
  pub below : a < s.at + s.size

-- no address is in both
abbrev pub IsApart : Segment → Segment → Type 0
IsApart s t = (a : ℕ) → HasAddress s a → HasAddress t a → ⊥

-- no address is in two segments of the list
abbrev pub AreApart : List Segment → Type 0
AreApart [] = Unit {0}
AreApart (s ∷ ss) = AllByRecursion (IsApart s) ss × AreApart ss
