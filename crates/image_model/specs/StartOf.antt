-- What a machine starts with, from an image and the size of its stack (System V ABI, "Program
-- Header": a segment has p_filesz bytes of the file, and zeros up to p_memsz).
use Rattle.std.specs.Prelude.{ℕ, zero, suc, ◌+◌, ◌-◌, ◌/◌, ◌%◌, ◌^◌, ◌==◌, nat_le, nat_lt}
use Rattle.std.specs.Prelude.{Bool, true, false, not, ◌&&◌, ◌||◌, if◌then◌else◌}
use Rattle.std.specs.Prelude.{List, [], ◌∷◌, length, slice_index}
use Rattle.std.specs.List.{list_any}
use Rattle.image_model.specs.Layout.{Layout}
use Rattle.image_model.specs.Pages.{page_size, page_start, page_limit}
use Rattle.image_model.specs.Permission.{Permission, no_permission, is_some_permission}
use Rattle.image_model.specs.Permission.{joined_permission}
use Rattle.image_model.specs.declared.image.Image.{Image}
use Rattle.image_model.specs.declared.image.Segment.{Segment}
use Rattle.image_model.specs.declared.region.PageBytes.{PageBytes}
use Rattle.image_model.specs.declared.region.Region.{Region}

-- ---- what may be done with a page

-- so many bytes from an address on have one on the page
abbrev pub is_on_page : (at size page : ℕ) → Bool
is_on_page at size page =
    nat_lt 0 size && nat_lt at (page_start (page + 1)) && nat_lt (page_start page) (at + size)

-- the flag is set: 1 execute, 2 write, 4 read
abbrev pub has_flag : (flags flag : ℕ) → Bool
has_flag flags flag = flags / flag % 2 == 1

-- what a segment's flags allow; what may be written may be read
abbrev pub flags_permission : ℕ → Permission
flags_permission flags = record {
  readable = has_flag flags 4 || has_flag flags 2;
  writable = has_flag flags 2;
  executable = has_flag flags 1;
}

-- a page has the permissions of all segments that have a byte on it, joined
abbrev pub segments_permission : List Segment → ℕ → Permission
segments_permission [] page = no_permission
segments_permission (s ∷ ss) page =
    if is_on_page s.at s.size page
    then joined_permission (flags_permission s.flags) (segments_permission ss page)
    else segments_permission ss page

-- the stack of so many bytes ends at 2 ^ 38, which is where the stack pointer begins
abbrev pub is_stack_page : (stack page : ℕ) → Bool
is_stack_page stack page = nat_le (2 ^ 38 - stack) (page_start page) && nat_lt page page_limit

abbrev pub stack_permission : Permission
stack_permission = record { readable = true; writable = true; executable = false }

-- what may be done with a page of an image's segments and a stack
abbrev pub page_permission : List Segment → (stack page : ℕ) → Permission
page_permission segments stack page =
    if is_stack_page stack page
    then joined_permission stack_permission (segments_permission segments page)
    else segments_permission segments page

-- ---- what stands on a page

-- the segment has a file byte at the address
abbrev pub has_byte : Segment → ℕ → Bool
has_byte s a = nat_le s.at a && nat_lt a (s.at + length s.bytes)

-- the file byte that stands at the address, or 0
abbrev pub file_byte : List Segment → ℕ → ℕ
file_byte [] a = 0
file_byte (s ∷ ss) a = if has_byte s a then slice_index s.bytes (a - s.at) else file_byte ss a

-- a segment has a file byte on the page, also one whose flags allow nothing
abbrev pub has_file_byte : List Segment → ℕ → Bool
has_file_byte segments page = list_any (λ s. is_on_page s.at (length s.bytes) page) segments

-- n bytes from an address on
unfoldable pub file_bytes : List Segment → (at n : ℕ) → List ℕ
file_bytes segments at zero = []
file_bytes segments at (suc n) = file_byte segments at ∷ file_bytes segments (at + 1) n

-- ---- the whole, from a page on, over so many pages

abbrev pub same_flag : Bool → Bool → Bool
same_flag true b = b
same_flag false b = not b

-- the page goes before the region and may be accessed in the same ways
abbrev pub goes_before : (page : ℕ) → Permission → Region → Bool
goes_before page p r =
    r.page == page + 1 && same_flag p.readable r.r && same_flag p.writable r.w
    && same_flag p.executable r.x

-- a region of one page
abbrev pub one_page : (page : ℕ) → Permission → Region
one_page page p = record {
  page = page;
  count = 1;
  r = p.readable;
  w = p.writable;
  x = p.executable;
}

-- the region with the page before it
abbrev pub one_more : (page : ℕ) → Region → Region
one_more page r = record r { page = page; count = r.count + 1 }

-- the page before the regions, joined to the first where they may be
abbrev pub with_region : (page : ℕ) → Permission → List Region → List Region
with_region page p [] = one_page page p ∷ []
with_region page p (r ∷ rs) =
    if goes_before page p r then one_more page r ∷ rs else one_page page p ∷ r ∷ rs

-- The pages with a permission, as regions: neighbouring pages of equal permission are one.
unfoldable pub regions_of : (ℕ → Permission) → (page n : ℕ) → List Region
regions_of permission page zero = []
regions_of permission page (suc n) =
    if is_some_permission (permission page)
    then with_region page (permission page) (regions_of permission (page + 1) n)
    else regions_of permission (page + 1) n

-- the pages with a permission and a file byte
unfoldable pub pages_of : List Segment → (ℕ → Permission) → (page n : ℕ) → List PageBytes
pages_of segments permission page zero = []
pages_of segments permission page (suc n) =
    if is_some_permission (permission page) && has_file_byte segments page
    then record { page = page; bytes = file_bytes segments (page_start page) page_size }
    ∷ pages_of segments permission (page + 1) n
    else pages_of segments permission (page + 1) n

-- what a machine starts with, from an image and a stack of so many bytes
abbrev pub start_of : Image → ℕ → Layout
start_of image stack = record {
  entry = image.entry;
  regions = regions_of (page_permission image.segments stack) 0 page_limit;
  pages = pages_of image.segments (page_permission image.segments stack) 0 page_limit;
}
