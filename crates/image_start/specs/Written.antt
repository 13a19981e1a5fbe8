-- The file bytes of segments on a page.
use Rattle.std.specs.Prelude.{◌≡◌, ℕ, ◌+◌, ◌-◌, ◌^◌, ◌<◌, if◌then◌else◌, List, slice_index}
use Rattle.image_model.specs.StartOf.{has_byte, file_byte}
use Rattle.image_model.specs.declared.image.Segment.{Segment}

-- the byte at an address, over which the segment's file byte is written where it has one
abbrev pub byte_over : Segment → (a old : ℕ) → ℕ
byte_over s a old = if has_byte s a then slice_index s.bytes (a - s.at) else old

-- the page that begins at the address has the segment's file bytes, and else the ones before
abbrev pub WritesSegment : Segment → (start : ℕ) → (old new : List ℕ) → Type 0
WritesSegment s start old new =
    (i : ℕ) → i < 2 ^ 12 → slice_index new i ≡ byte_over s (start + i) (slice_index old i)

-- the page that begins at the address has the file bytes of all segments
abbrev pub HasFileBytes : List Segment → (start : ℕ) → List ℕ → Type 0
HasFileBytes segments start bytes =
    (i : ℕ) → i < 2 ^ 12 → slice_index bytes i ≡ file_byte segments (start + i)

-- so many bytes are 0
abbrev pub AreZeros : (size : ℕ) → List ℕ → Type 0
AreZeros size bytes = (i : ℕ) → i < size → slice_index bytes i ≡ 0
