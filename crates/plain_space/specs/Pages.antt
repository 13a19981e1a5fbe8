-- Pages that were copied, and what they mean by their numbers.
use Rattle.std.specs.Prelude.{◌≡◌, ℕ, ◌+◌, ◌-◌, ◌%◌, ◌^◌, ◌<◌, ◌≤◌, ◌==◌, nat_le, nat_lt}
use Rattle.std.specs.Prelude.{Bool, false, ◌&&◌, if◌then◌else◌}
use Rattle.std.specs.Prelude.{List, [], ◌∷◌, length, slice_index, slice_index_or}
use Rattle.std.specs.Prelude.{Option, None, Some, MatchOption}
use Rattle.image_model.specs.Pages.{page_of}
use Rattle.image_model.specs.Permission.{Permission, permission_in}
use Rattle.image_model.specs.declared.region.Region.{Region}
use Rattle.space_api.specs.Flat.{Flat}
use Rattle.plain_space.specs.declared.page.Flags.{Flags}
use Rattle.plain_space.specs.declared.page.Page.{Page}

abbrev pub permission_of : Flags → Permission
permission_of f = record { readable = f.r; writable = f.w; executable = f.x }

-- the page with the number
abbrev pub page_with : List Page → ℕ → Option Page
page_with [] n = None
page_with (p ∷ ps) n = if p.number == n then Some p else page_with ps n

-- the byte at an address, 0 where its page isn't there
abbrev pub byte_in_page : Option Page → ℕ → ℕ
byte_in_page None a = 0
byte_in_page (Some p) a = slice_index p.bytes.items (a % 2 ^ 12)

abbrev pub is_page_written : Option Page → Bool
is_page_written None = false
is_page_written (Some p) = p.written

abbrev pub flat_of_pages : List Region → List Page → Flat
flat_of_pages regions pages = record {
  memory = λ a. byte_in_page (page_with pages (page_of a)) a;
  permissions = permission_in regions;
  written = λ page. is_page_written (page_with pages page);
}

-- ---- which pages there may be

-- a page at or above a number, which may be used as its region says
pub record IsPageOf (regions : List Region) (lowest : ℕ) (p : Page) : Type 0 where
  pub above : lowest ≤ p.number
  pub whole : length p.bytes.items ≡ 2 ^ 12
  pub allowed : permission_in regions p.number ≡ permission_of p.flags

-- pages rise, each once
abbrev pub ArePagesOf : List Region → (lowest : ℕ) → List Page → Type 0
ArePagesOf regions lowest [] = Unit {0}
ArePagesOf regions lowest (p ∷ ps) =
    IsPageOf regions lowest p × ArePagesOf regions (p.number + 1) ps

-- ---- where a page is

-- the page with the number is the i-th
pub record IsPlace (pages : List Page) (n i : ℕ) : Type 0 where
  pub within : i < length pages
  pub number : (d : Page) → (slice_index_or pages i d).number ≡ n
  pub found : (d : Page) → page_with pages n ≡ Some (slice_index_or pages i d)

-- i pages have numbers below n, and all others have numbers at or above it
pub record IsSplit (pages : List Page) (n i : ℕ) : Type 0 where
  pub within : i ≤ length pages
  pub below : (k : ℕ) (d : Page) → k < i → (slice_index_or pages k d).number < n
  pub above : (k : ℕ) (d : Page) → i ≤ k → k < length pages
      → n ≤ (slice_index_or pages k d).number

abbrev pub Finds : List Page → (n : ℕ) → Option ℕ → Type 0
Finds pages n found = MatchOption found (page_with pages n ≡ None) (IsPlace pages n)

-- ---- bytes of a page over others

-- the bytes `new` are `old` but for a piece that stands at the offset
pub record Overlays (old new : List ℕ) (offset : ℕ) (piece : List ℕ) : Type 0 where
  pub whole : length new ≡ length old
  pub bytes : (k : ℕ) → slice_index new k
      ≡ (if nat_le offset k && nat_lt k (offset + length piece)
      then slice_index piece (k - offset) else slice_index old k)
