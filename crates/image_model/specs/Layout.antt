-- What a `Start` is: an entry, regions with permissions, and pages with bytes.
use Rattle.std.specs.Prelude.{◌≡◌, ℕ, ◌+◌, ◌%◌, ◌<◌, ◌≤◌, ◌==◌, ◌||◌, IsTrue, if◌then◌else◌}
use Rattle.std.specs.Prelude.{true, List, [], ◌∷◌, length, slice_index}
use Rattle.image_model.specs.Pages.{page_size, page_of, page_limit}
use Rattle.image_model.specs.Permission.{Permission, is_some_permission, region_permission}
use Rattle.image_model.specs.Permission.{permission_in}
use Rattle.image_model.specs.declared.region.PageBytes.{PageBytes}
use Rattle.image_model.specs.declared.region.Region.{Region}

pub record Layout : Type 0 where
  pub entry : ℕ
  pub regions : List Region
  pub pages : List PageBytes

-- the byte at an address: that of its page, or 0 where the page isn't listed
abbrev pub byte_in : List PageBytes → ℕ → ℕ
byte_in [] a = 0
byte_in (p ∷ ps) a =
    if p.page == page_of a then slice_index p.bytes (a % page_size) else byte_in ps a

-- ---- which layouts a `Start` may have

-- a region at or above a page, which ends at or below the limit
pub record IsRegion (lowest : ℕ) (r : Region) : Type 0 where
  pub above : lowest ≤ r.page
  pub nonempty : 0 < r.count
  pub below : r.page + r.count ≤ page_limit
  pub accessible : IsTrue (r.r || r.x)
  pub readable : IsTrue r.w → IsTrue r.r

-- regions rise and don't overlap
abbrev pub AreRegions : (lowest : ℕ) → List Region → Type 0
AreRegions lowest [] = Unit {0}
AreRegions lowest (r ∷ rs) = IsRegion lowest r × AreRegions (r.page + r.count) rs

-- the region that comes next, if any, isn't at the page with the permission
abbrev pub IsApart : (page : ℕ) → Permission → List Region → Type 0
IsApart page p [] = Unit {0}
IsApart page p (r ∷ rs) = (r.page ≡ page) × (p ≡ region_permission r) → ⊥

-- no region goes directly before one that may be accessed in the same ways
abbrev pub IsJoined : List Region → Type 0
IsJoined [] = Unit {0}
IsJoined (r ∷ rs) = IsApart (r.page + r.count) (region_permission r) rs × IsJoined rs

pub record IsPage (lowest : ℕ) (p : PageBytes) : Type 0 where
  pub above : lowest ≤ p.page
  pub below : p.page < page_limit
  pub whole : length p.bytes ≡ page_size

-- pages rise, each once
abbrev pub ArePages : (lowest : ℕ) → List PageBytes → Type 0
ArePages lowest [] = Unit {0}
ArePages lowest (p ∷ ps) = IsPage lowest p × ArePages (p.page + 1) ps

-- each page is one of a region's
abbrev pub AreInRegions : List Region → List PageBytes → Type 0
AreInRegions rs [] = Unit {0}
AreInRegions rs (p ∷ ps) =
    (is_some_permission (permission_in rs p.page) ≡ true) × AreInRegions rs ps

pub record IsLayout (l : Layout) : Type 0 where
  pub aligned : l.entry % 4 ≡ 0
  pub regions : AreRegions 0 l.regions
  pub pages : ArePages 0 l.pages
  pub inside : AreInRegions l.regions l.pages
