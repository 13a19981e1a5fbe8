-- What holds of each image: no row of the table is true.
use Rattle.std.proofs.Common.{◌≡◌, ℕ, ◌+◌, ◌%◌, ◌<◌, ◌≤◌, nat_lt, nat_eq, Bool, true, false, not}
use Rattle.std.proofs.Common.{if◌then◌else◌, List, [], ◌∷◌, ◌++◌, map, drop}
use Rattle.std.proofs.Common.{length, Option, Some, None, Ok, refl, ap}
use Rattle.std.proofs.Common.{arith}
use Rattle.std.proofs.lemmas.Bool.{or_parts}
use Rattle.std.proofs.lemmas.Bool.Decides.{nat_tests}
use Rattle.std.proofs.lemmas.List.{length-map, length-take}
use Rattle.std.specs.List.{AllByRecursion, filter, list_any}
use Rattle.image_model.specs.declared.image.Image.{Image}
use Rattle.image_model.specs.declared.image.Segment.{Segment}
use Rattle.elf64.specs.Elf.{elf, image_of, image_unless, checks, first_fault, file_checks}
use Rattle.elf64.specs.Elf.{header_checks, segment_checks, has_too_many_loads, has_wrong_ranges}
use Rattle.elf64.specs.Elf.{has_wrong_addresses, has_overlaps, has_wrong_entry, is_executable_at}
use Rattle.elf64.specs.Laws.{IsSoundSegment, IsApart, AreApart}
use Rattle.elf64.specs.Segments.{has_memory, has_overlap, has_wrong_address, has_wrong_range, loads}
use Rattle.elf64.specs.Segments.{segment_of, segments_of, shares_address}
use Rattle.elf64.specs.declared.fault.ElfFault.{ElfFault}
use Rattle.elf64.specs.declared.program_header.ProgramHeader.{ProgramHeader}

-- ---- no row is true

ok_is : (o : Option ElfFault) (i image : Image) → image_unless o i ≡ Ok image
    → (o ≡ None) × (i ≡ image)
ok_is None i image e = (refl, cc)
ok_is (Some f) i image e = absurd cc

none_step : (b : Bool) (x : ElfFault) (r : Option ElfFault) → (if b then Some x else r) ≡ None
    → (b ≡ false) × (r ≡ None)
none_step true x r e = absurd cc
none_step false x r e = (refl, e)

no_row : (rows : List (Bool × ElfFault)) → first_fault rows ≡ None
    → AllByRecursion (λ row. row.0 ≡ false) rows
no_row [] e = tt
no_row (row ∷ rows) e =
    let parts : (row.0 ≡ false) × (first_fault rows ≡ None) = none_step row.0 row.1 _ e in
    (parts.0, no_row rows parts.1)

none_front : (xs ys : List (Bool × ElfFault)) → first_fault (xs ++ ys) ≡ None
    → first_fault ys ≡ None
none_front [] ys e = e
none_front (row ∷ xs) ys e = none_front xs ys (none_step row.0 row.1 _ e).1

-- the rows on the PT_LOADs are false
record IsClean (bytes : List ℕ) : Type 0 where
  few : has_too_many_loads bytes ≡ false
  ranges : has_wrong_ranges bytes ≡ false
  addresses : has_wrong_addresses bytes ≡ false
  overlaps : has_overlaps bytes ≡ false
  entry : has_wrong_entry bytes ≡ false

header_rows : (bytes : List ℕ) → first_fault (header_checks bytes ++ segment_checks bytes) ≡ None
    → has_too_many_loads bytes ≡ false
unfolding header_checks segment_checks
header_rows bytes none = (no_row (header_checks bytes ++ segment_checks bytes) none).1.1.0

segment_rows : (bytes : List ℕ) → first_fault (segment_checks bytes) ≡ None
    → AllByRecursion (λ row. row.0 ≡ false) (segment_checks bytes)
segment_rows bytes none = no_row (segment_checks bytes) none

clean : (bytes : List ℕ) → first_fault (checks bytes) ≡ None → IsClean bytes
unfolding segment_checks
clean bytes none =
    let behind : first_fault (header_checks bytes ++ segment_checks bytes) ≡ None
    = none_front (file_checks bytes) _ none in
    let rows : AllByRecursion (λ row. row.0 ≡ false) (segment_checks bytes)
    = segment_rows bytes (none_front (header_checks bytes) _ behind) in
    record {
      few = header_rows bytes behind;
      ranges = rows.0;
      addresses = rows.1.1.0;
      overlaps = rows.1.1.1.0;
      entry = rows.1.1.1.1.0;
    }

-- ---- segments

is_sound : (bytes : List ℕ) (n : ℕ) (h : ProgramHeader) → has_memory h ≡ true
    → has_wrong_range n h ≡ false
    → has_wrong_address h ≡ false → IsSoundSegment (segment_of bytes h)
is_sound bytes n h memory range address =
    let size : h.p_filesz ≤ h.p_memsz = grind (arith, nat_tests) in
    record {
      nonempty = grind (arith, nat_tests);
      lowest = grind (arith, nat_tests);
      highest = grind (arith, nat_tests);
      flags = omega arith;
      bytes = omega (arith, length-take h.p_filesz (drop h.p_offset bytes));
    }

sound_step : (bytes : List ℕ) (h : ProgramHeader) (ss : List Segment) (b : Bool) → has_memory h ≡ b
    → (b ≡ true → IsSoundSegment (segment_of bytes h)) → AllByRecursion IsSoundSegment ss
    → AllByRecursion IsSoundSegment (if b then segment_of bytes h ∷ ss else ss)
sound_step bytes h ss true is first others = (first refl, others)
sound_step bytes h ss false is first others = others

-- filtering and mapping one more
segments_more : (bytes : List ℕ) (h : ProgramHeader) (hs : List ProgramHeader)
    → segments_of bytes (h ∷ hs)
    ≡ (if has_memory h then segment_of bytes h ∷ segments_of bytes hs else segments_of bytes hs)
segments_more bytes h hs = elim (has_memory h) as
    (λ v. map (segment_of bytes) (if v then h ∷ filter has_memory hs else filter has_memory hs)
    ≡ (if v then segment_of bytes h ∷ segments_of bytes hs else segments_of bytes hs))
    [ true ↦ refl | false ↦ refl ]

pub sound_segments : (bytes : List ℕ) (n : ℕ) (hs : List ProgramHeader)
    → list_any (has_wrong_range n) hs ≡ false
    → list_any has_wrong_address hs ≡ false → AllByRecursion IsSoundSegment (segments_of bytes hs)
sound_segments bytes n [] ranges addresses = tt
sound_segments bytes n (h ∷ hs) ranges addresses =
    let r : (has_wrong_range n h ≡ false) × (list_any (has_wrong_range n) hs ≡ false)
    = or_parts _ _ ranges in
    let a : (has_wrong_address h ≡ false) × (list_any has_wrong_address hs ≡ false)
    = or_parts _ _ addresses in
    rw (segments_more bytes h hs)
    (sound_step bytes h (segments_of bytes hs) (has_memory h) refl
    (λ m. is_sound bytes n h m r.0 a.0)
    (sound_segments bytes n hs r.1 a.1))

is_apart : (bytes : List ℕ) (g h : ProgramHeader) → has_memory g ≡ true → has_memory h ≡ true
    → shares_address g h ≡ false → IsApart (segment_of bytes g) (segment_of bytes h)
is_apart bytes g h m n shares a p q =
    let pf : g.p_vaddr ≤ a = p.from in let pb : a < g.p_vaddr + g.p_memsz = p.below in
    let qf : h.p_vaddr ≤ a = q.from in let qb : a < h.p_vaddr + h.p_memsz = q.below in
    grind (arith, nat_tests)

apart_step : (bytes : List ℕ) (s : Segment) (h : ProgramHeader) (ss : List Segment) (b : Bool)
    → (b ≡ true → IsApart s (segment_of bytes h)) → AllByRecursion (IsApart s) ss
    → AllByRecursion (IsApart s) (if b then segment_of bytes h ∷ ss else ss)
apart_step bytes s h ss true first others = (first refl, others)
apart_step bytes s h ss false first others = others

apart_from : (bytes : List ℕ) (g : ProgramHeader) (hs : List ProgramHeader) → has_memory g ≡ true
    → list_any (shares_address g) hs ≡ false
    → AllByRecursion (IsApart (segment_of bytes g)) (segments_of bytes hs)
apart_from bytes g [] m shares = tt
apart_from bytes g (h ∷ hs) m shares =
    let parts : (shares_address g h ≡ false) × (list_any (shares_address g) hs ≡ false)
    = or_parts _ _ shares in
    rw (segments_more bytes h hs)
    (apart_step bytes (segment_of bytes g) h (segments_of bytes hs) (has_memory h)
    (λ n. is_apart bytes g h m n parts.0)
    (apart_from bytes g hs m parts.1))

all_apart_step : (bytes : List ℕ) (h : ProgramHeader) (ss : List Segment) (b : Bool)
    → (b ≡ true → AllByRecursion (IsApart (segment_of bytes h)) ss) → AreApart ss
    → AreApart (if b then segment_of bytes h ∷ ss else ss)
all_apart_step bytes h ss true first others = (first refl, others)
all_apart_step bytes h ss false first others = others

pub all_apart : (bytes : List ℕ) (hs : List ProgramHeader) → has_overlap hs ≡ false
    → AreApart (segments_of bytes hs)
all_apart bytes [] overlap = tt
all_apart bytes (h ∷ hs) overlap =
    let parts : (list_any (shares_address h) hs ≡ false) × (has_overlap hs ≡ false)
    = or_parts _ _ overlap in
    rw (segments_more bytes h hs)
    (all_apart_step bytes h (segments_of bytes hs) (has_memory h)
    (λ m. apart_from bytes h hs m parts.0)
    (all_apart bytes hs parts.1))

filter_length : {X : Type 0} (p : X → Bool) (xs : List X) → length (filter p xs) ≤ length xs
filter_length p [] = omega arith
filter_length {X} p (x ∷ xs) =
    let kept : List X = filter p xs in
    let before : length kept ≤ length xs = filter_length p xs in
    elim (p x) as (λ v. length (if v then x ∷ kept else kept)
    ≤ length (x ∷ xs)) [ true ↦ omega arith | false ↦ omega arith ]

at_most : (n : ℕ) → nat_lt 16 n ≡ false → n ≤ 16
at_most n h = grind (arith, nat_tests)

-- ---- images

clean_of : (bytes : List ℕ) (image : Image) → elf bytes ≡ Ok image → IsClean bytes
clean_of bytes image e = clean bytes (ok_is _ (image_of bytes) image e).0

image_is : (bytes : List ℕ) (image : Image) → elf bytes ≡ Ok image → image_of bytes ≡ image
image_is bytes image e = (ok_is (first_fault (checks bytes)) (image_of bytes) image e).1

pub few_segments : (bytes : List ℕ) (image : Image) → elf bytes ≡ Ok image
    → length image.segments ≤ 16
few_segments bytes image e =
    let few : length (loads bytes) ≤ 16 = at_most _ (clean_of bytes image e).few in
    let same : length (segments_of bytes (loads bytes)) ≡ length image.segments
    = ap (λ i. length i.segments) (image_is bytes image e) in
    let kept : length (filter has_memory (loads bytes)) ≤ length (loads bytes)
    = filter_length has_memory (loads bytes) in
    let mapped : length (segments_of bytes (loads bytes))
    ≡ length (filter has_memory (loads bytes)) = length-map _ _ in
    omega arith

pub each_sound : (bytes : List ℕ) (image : Image) → elf bytes ≡ Ok image
    → AllByRecursion IsSoundSegment image.segments
each_sound bytes image e =
    rw (← image_is bytes image e)
    (sound_segments bytes (length bytes) (loads bytes) (clean_of bytes image e).ranges
    (clean_of bytes image e).addresses)

pub apart_segments : (bytes : List ℕ) (image : Image) → elf bytes ≡ Ok image
    → AreApart image.segments
apart_segments bytes image e = rw (← image_is bytes image e)
    (all_apart bytes (loads bytes) (clean_of bytes image e).overlaps)

-- ---- the entry

eq_from : (n : ℕ) → not (nat_eq (n % 4) 0) ≡ false → n % 4 ≡ 0
eq_from n h = grind (arith, nat_tests)

not_false : (b : Bool) → not b ≡ false → b ≡ true
not_false true h = refl
not_false false h = absurd cc

pub aligned_entry : (bytes : List ℕ) (image : Image) → elf bytes ≡ Ok image → image.entry % 4 ≡ 0
aligned_entry bytes image e =
    rw (← image_is bytes image e)
    (eq_from (image_of bytes).entry (or_parts _ _ (clean_of bytes image e).entry).0)

pub executable_entry : (bytes : List ℕ) (image : Image) → elf bytes ≡ Ok image
    → is_executable_at image image.entry ≡ true
executable_entry bytes image e =
    rw (← image_is bytes image e) (not_false _ (or_parts _ _ (clean_of bytes image e).entry).1)
