-- Images that aren't valid.
use Rattle.std.proofs.Common.{◌≡◌, ℕ, ◌+◌, ◌^◌, ◌≤◌, nat_le, nat_lt, Bool, true, false}
use Rattle.std.proofs.Common.{not, ◌&&◌, List, [], ◌∷◌, length, map, refl, ap, ◌∙◌, arith}
use Rattle.std.proofs.Common.{cond, Option, None}
use Rattle.std.proofs.lemmas.List.{length-map}
use Rattle.std.proofs.lemmas.Bool.Decides.{nat_tests}
use Rattle.std.proofs.lemmas.List.Sums.{sum_by-cons}
use Rattle.std.specs.List.{list_all, sum_by}
use Rattle.image_model.specs.Pages.{page_of, page_start}
use Rattle.image_model.specs.Permission.{joined_permission}
use Rattle.image_model.specs.StartOf.{is_on_page, flags_permission, segments_permission}
use Rattle.image_model.specs.Valid.{is_valid, is_right_segment, is_executable, has_overlap}
use Rattle.image_model.specs.Valid.{has_right_entry, file_size, most_segments, largest_file}
use Rattle.image_model.specs.Valid.{highest_address, memory_end}
use Rattle.image_model.specs.declared.image.Image.{Image}
use Rattle.image_model.specs.declared.image.Segment.{Segment}
use Rattle.asm_program.specs.Program.{Part}
use Rattle.asm_program.specs.Reading.{Reading}
use Rattle.asm_image.specs.ImageOf.{segment_for, image_of, image_if_valid, low_address}
use Rattle.asm_image.specs.Sizes.{fits_file, parts_size, part_size}
use Rattle.asm_image.proofs.Rooms.{bytes_size}

and_false : (x : Bool) → x && false ≡ false
and_false true = refl
and_false false = refl

and_left : (x y : Bool) → x && y ≡ true → x ≡ true
and_left true y h = refl
and_left false y h = h

and_right : (x y : Bool) → x && y ≡ true → y ≡ true
and_right true y h = h
and_right false y h = absurd (cc)

-- ---- an image that is too long

by_ends : (a b c d e : Bool) → a && e ≡ false → a && b && c && d && e ≡ false
by_ends true b c d e h = rw h (and_false (b && c && d))
by_ends false b c d e h = refl

segments_size : (labels : List ℕ → Option ℕ) (parts : List Part)
    → sum_by (λ s. length s.bytes) (map (segment_for labels) parts) ≡ parts_size parts
segments_size labels [] = refl
segments_size labels (p ∷ ps) =
    omega (
      arith,
      sum_by-cons (λ s. length s.bytes) (segment_for labels p)
          (map (segment_for labels) ps),
      sum_by-cons part_size p ps,
      segments_size labels ps,
      bytes_size labels p.pieces,
    )

too_long : (r : Reading) → fits_file r.parts ≡ false → is_valid (image_of r) ≡ false
too_long r h =
    let segments = map (segment_for r.labels) r.parts in
    let same : (nat_le (length segments) most_segments
    && nat_le (file_size segments) largest_file) ≡ fits_file r.parts =
    rw (length-map, segments_size) refl in
    by_ends _ (list_all is_right_segment segments) (not (has_overlap segments))
    (has_right_entry (image_of r)) _ (same ∙ h)

pub invalid_if_long : (r : Reading) → fits_file r.parts ≡ false → None ≡ image_if_valid r
invalid_if_long r h = rw (too_long r h) refl

-- ---- an image that begins too high

behind_all : (at size page : ℕ) → nat_le (at + size) highest_address ≡ true
    → highest_address ≤ page_start page → is_on_page at size page ≡ false
behind_all at size page low high =
    let last : nat_lt (page_start page) (at + size) ≡ false = grind (arith, nat_tests) in
    rw last (and_false (nat_lt 0 size && nat_lt at (page_start (page + 1))))

ends_low : (s : Segment) → is_right_segment s ≡ true
    → nat_le (memory_end s) highest_address ≡ true
ends_low s right = and_right _ _ (and_left _ _ (and_left _ _ right))

not_executable : (ss : List Segment) (page : ℕ) → highest_address ≤ page_start page
    → list_all is_right_segment ss ≡ true → is_executable ss page ≡ false
not_executable [] page high right = refl
not_executable (s ∷ ss) page high right =
    let others = segments_permission ss page in
    let joined = joined_permission (flags_permission s.flags) others in
    ap (λ (t : Bool). (cond t joined others).executable)
    (behind_all s.at s.size page (ends_low s (and_left _ _ right)) high)
    ∙ not_executable ss page high (and_right _ _ right)

by_middle : (a b c x y e : Bool) → (b ≡ true → y ≡ false) → a && b && c && (x && y) && e ≡ false
by_middle a true c x y e h = rw (h refl, and_false x, and_false (a && true && c)) refl
by_middle a false c x y e h = rw (and_false a) refl

high_page : (entry : ℕ) → 2 ^ 64 ≤ entry → highest_address ≤ page_start (page_of entry)
high_page entry high = omega arith

too_high : (image : Image) → 2 ^ 64 ≤ image.entry → is_valid image ≡ false
too_high image high =
    by_middle _ _ _ _ _ _
    (not_executable image.segments (page_of image.entry) (high_page image.entry high))

no_low : (address : ℕ) → None ≡ low_address address → 2 ^ 64 ≤ address
no_low address none = grind (arith, nat_tests)

pub invalid_if_high : (r : Reading) → None ≡ low_address (image_of r).entry
    → None ≡ image_if_valid r
invalid_if_high r none = rw (too_high (image_of r) (no_low (image_of r).entry none)) refl
