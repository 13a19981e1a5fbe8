-- The file of a valid image is read to the image.
use Rattle.std.proofs.Common.{◌≡◌, ℕ, suc, ◌+◌, ◌*◌, ◌%◌, ◌^◌, ◌<◌, ◌≤◌, nat_le, nat_lt, nat_eq, Bool, true, false, not}
use Rattle.std.proofs.Common.{◌&&◌, ◌||◌, if◌then◌else◌, List, [], ◌∷◌, ◌++◌, map, take, drop, length}
use Rattle.std.proofs.Common.{Option, Some, None, Ok, refl, sym, ap, ◌∙◌, arith, eq-eqb}
use Rattle.std.proofs.lemmas.Bool.{and_parts}
use Rattle.std.proofs.lemmas.Bool.Decides.{nat_tests}
use Rattle.std.proofs.lemmas.List.{drop-drop, length-append}
use Rattle.std.proofs.lemmas.List.Sums.{sum_by-cons}
use Rattle.std.proofs.lemmas.Nat.{from_le_bytes-to_le_bytes_2, from_le_bytes-to_le_bytes_8}
use Rattle.std.proofs.Math.Seq.{take-append_seam, drop-append_seam}
use Rattle.std.specs.List.{filter, list_all, list_any, range_with_len, sum_by}
use Rattle.image_model.specs.StartOf.{segments_permission}
use Rattle.image_model.specs.Pages.{page_of}
use Rattle.image_model.specs.Valid as valid
use Rattle.image_model.specs.declared.image.Image.{Image}
use Rattle.image_model.specs.declared.image.Segment.{Segment}
use Rattle.elf64.specs.Elf.{elf, checks, file_checks, header_checks, segment_checks, first_fault}
use Rattle.elf64.specs.Elf.{image_of, image_unless, has_wrong_entry}
use Rattle.elf64.specs.Fields.{e_entry, e_phentsize, e_phnum, e_phoff, program_header}
use Rattle.elf64.specs.Fields.{program_headers}
use Rattle.elf64.specs.Segments.{is_load, loads, has_memory, has_overlap, has_wrong_address}
use Rattle.elf64.specs.Segments.{has_wrong_range, file_sizes, segment_of, segments_of}
use Rattle.elf64.specs.Segments.{shares_address}
use Rattle.elf64_write.specs.Written.{file_header, segment_headers, segment_bytes}
use Rattle.elf64_write.specs.Written.{first_offset, written}
use Rattle.elf64.specs.declared.fault.ElfFault.{ElfFault}
use Rattle.elf64_write.proofs.Headers.{IsRight, right, load_of, loads_of, headers_length, headers_read}

-- ---- what validity says

pub record IsFit (entry : ℕ) (ss : List Segment) : Type 0 where
  pub few : length ss ≤ 16
  pub all : list_all valid.is_right_segment ss ≡ true
  pub apart : valid.has_overlap ss ≡ false
  pub aligned : entry % 4 ≡ 0
  pub executable : valid.is_executable ss (page_of entry) ≡ true
  pub size : 64 + 56 * length ss + length (segment_bytes ss) ≤ 2 ^ 24

at_most : (a b : ℕ) → nat_le a b ≡ true → a ≤ b
at_most a b h = grind (arith, nat_tests)

equal : (a b : ℕ) → nat_eq a b ≡ true → a ≡ b
equal a b h = grind (arith, nat_tests)

not_true : (b : Bool) → not b ≡ true → b ≡ false
not_true true h = absurd cc
not_true false h = refl

bytes_length : (ss : List Segment)
    → length (segment_bytes ss) ≡ sum_by (λ s. length s.bytes) ss
bytes_length [] = refl
bytes_length (s ∷ ss) =
    length-append s.bytes (segment_bytes ss)
    ∙ (ap (λ n. length s.bytes + n) (bytes_length ss)
    ∙ sym (sum_by-cons (λ s. length s.bytes) s ss))

pub fit : (image : Image) → valid.is_valid image ≡ true → IsFit image.entry image.segments
fit image h =
    let a = and_parts _ _ h in
    let b = and_parts _ _ a.0 in
    let c = and_parts _ _ b.0 in
    let d = and_parts _ _ c.0 in
    let e = and_parts _ _ b.1 in
    let size : valid.file_size image.segments ≤ 16777216 = at_most _ _ a.1 in
    let sums : length (segment_bytes image.segments)
    ≡ sum_by (λ s. length s.bytes) image.segments = bytes_length image.segments in
    record {
      few = at_most _ _ d.0;
      all = d.1;
      apart = not_true _ c.1;
      aligned = equal _ _ e.0;
      executable = e.1;
      size = omega arith;
    }

-- ---- tables

none_more : (b : Bool) (f : ElfFault) (r : Option ElfFault) → b ≡ false → r ≡ None
    → (if b then Some f else r) ≡ None
none_more true f r clear none = absurd cc
none_more false f r clear none = none

none_step : (b : Bool) (f : ElfFault) (r s : Option ElfFault) → (r ≡ None → s ≡ None)
    → (if b then Some f else r) ≡ None → (if b then Some f else s) ≡ None
none_step true f r s later clear = absurd cc
none_step false f r s later clear = later clear

-- without a fault in either part there is none in both
none_both : (xs ys : List (Bool × ElfFault)) → first_fault xs ≡ None → first_fault ys ≡ None
    → first_fault (xs ++ ys) ≡ None
none_both [] ys clear none = none
none_both (row ∷ rows) ys clear none =
    none_step row.0 row.1 _ _ (λ h. none_both rows ys h none) clear

or_false : (a b : Bool) → a ≡ false → b ≡ false → (a || b) ≡ false
or_false true b x y = absurd cc
or_false false b x y = y

not_false : (b : Bool) → b ≡ true → not b ≡ false
not_false true h = refl
not_false false h = absurd cc

-- ---- the file's header

entry_read : (entry count : ℕ) (more : List ℕ) → entry < 2 ^ 64
    → e_entry (file_header entry count ++ more) ≡ entry
unfolding file_header
entry_read entry count more small = from_le_bytes-to_le_bytes_8 entry small

count_read : (entry count : ℕ) (more : List ℕ) → count < 2 ^ 16
    → e_phnum (file_header entry count ++ more) ≡ count
unfolding file_header
count_read entry count more small = from_le_bytes-to_le_bytes_2 count small

offset_read : (entry count : ℕ) (more : List ℕ)
    → e_phoff (file_header entry count ++ more) ≡ 64
unfolding file_header
offset_read entry count more = refl

header_length : (entry count : ℕ) (more : List ℕ)
    → length (file_header entry count ++ more) ≡ 64 + length more
unfolding file_header
header_length entry count more = omega arith

header_drop : (entry count : ℕ) (more : List ℕ) → drop 64 (file_header entry count ++ more) ≡ more
unfolding file_header
header_drop entry count more = refl

too_big : (size count : ℕ) → size ≤ 2 ^ 24 → count ≤ 16
    → (nat_lt (2 ^ 24) size || nat_lt 64 count) ≡ false
too_big size count h k = grind (arith, nat_tests)

too_short : (size : ℕ) → 64 ≤ size → nat_lt size 64 ≡ false
too_short size h = grind (arith, nat_tests)

-- the rows on the file header are false
head_clean : (entry count : ℕ) (more : List ℕ) → count ≤ 16
    → length (file_header entry count ++ more) ≤ 2 ^ 24
    → first_fault (file_checks (file_header entry count ++ more)) ≡ None
unfolding file_checks file_header
head_clean entry count more few small =
    let e : e_phnum (file_header entry count ++ more) ≡ count
    = count_read entry count more (omega arith) in
    let big : (nat_lt (2 ^ 24) (length (file_header entry count ++ more)) || nat_lt 64 (e_phnum (file_header entry count ++ more))) ≡ false
    = too_big _ _ small (omega arith) in
    none_more _ _ _ (too_short _ (omega arith))
    (none_more _ _ _ big refl)

-- ---- the PT_LOADs

each_is_load : (offset : ℕ) (ss : List Segment)
    → filter is_load (loads_of offset ss) ≡ loads_of offset ss
each_is_load offset [] = refl
each_is_load offset (s ∷ ss) =
    ap (λ hs. load_of offset s ∷ hs) (each_is_load (offset + length s.bytes) ss)

loads_count : (offset : ℕ) (ss : List Segment) → length (loads_of offset ss) ≡ length ss
loads_count offset [] = refl
loads_count offset (s ∷ ss) = ap suc (loads_count (offset + length s.bytes) ss)

memory : (offset : ℕ) (s : Segment) → IsRight s → has_memory (load_of offset s) ≡ true
memory offset s is = grind (arith, nat_tests)

each_has_memory : (offset : ℕ) (ss : List Segment) → list_all valid.is_right_segment ss ≡ true
    → filter has_memory (loads_of offset ss) ≡ loads_of offset ss
each_has_memory offset [] all = refl
each_has_memory offset (s ∷ ss) all =
    let parts = and_parts (valid.is_right_segment s) (list_all valid.is_right_segment ss) all in
    let has : has_memory (load_of offset s) ≡ true = memory offset s (right s parts.0) in
    rw has (ap (λ hs. load_of offset s ∷ hs)
    (each_has_memory (offset + length s.bytes) ss parts.1))

right_range : (length_of_file offset : ℕ) (s : Segment) → IsRight s
    → offset + length s.bytes ≤ length_of_file
    → has_wrong_range length_of_file (load_of offset s) ≡ false
right_range n offset s is inside = grind (arith, nat_tests)

right_ranges : (n offset : ℕ) (ss : List Segment) → list_all valid.is_right_segment ss ≡ true
    → offset + length (segment_bytes ss) ≤ n
    → list_any (has_wrong_range n) (loads_of offset ss) ≡ false
right_ranges n offset [] all inside = refl
right_ranges n offset (s ∷ ss) all inside =
    let parts = and_parts (valid.is_right_segment s) (list_all valid.is_right_segment ss) all in
    let count : length (s.bytes ++ segment_bytes ss) ≡ length s.bytes + length (segment_bytes ss)
    = length-append s.bytes (segment_bytes ss) in
    or_false _ _ (right_range n offset s (right s parts.0) (omega arith))
    (right_ranges n (offset + length s.bytes) ss parts.1 (omega arith))

sizes_read : (offset : ℕ) (ss : List Segment)
    → file_sizes (loads_of offset ss) ≡ length (segment_bytes ss)
sizes_read offset [] = refl
sizes_read offset (s ∷ ss) =
    sum_by-cons (λ h. h.p_filesz) (load_of offset s) (loads_of (offset + length s.bytes) ss)
    ∙ (ap (λ n. length s.bytes + n) (sizes_read (offset + length s.bytes) ss)
    ∙ sym (length-append s.bytes (segment_bytes ss)))

right_address : (offset : ℕ) (s : Segment) → IsRight s
    → has_wrong_address (load_of offset s) ≡ false
right_address offset s is = grind (arith, nat_tests)

right_addresses : (offset : ℕ) (ss : List Segment) → list_all valid.is_right_segment ss ≡ true
    → list_any has_wrong_address (loads_of offset ss) ≡ false
right_addresses offset [] all = refl
right_addresses offset (s ∷ ss) all =
    let parts = and_parts (valid.is_right_segment s) (list_all valid.is_right_segment ss) all in
    or_false _ _ (right_address offset s (right s parts.0))
    (right_addresses (offset + length s.bytes) ss parts.1)

shares_same : (a b : ℕ) (s t : Segment) → IsRight s → IsRight t
    → shares_address (load_of a s) (load_of b t) ≡ valid.shares_address s t
shares_same a b s t is it =
    let m : has_memory (load_of a s) ≡ true = memory a s is in
    let n : has_memory (load_of b t) ≡ true = memory b t it in
    rw (m, n) refl

any_shares : (a b : ℕ) (s : Segment) (ss : List Segment) → IsRight s
    → list_all valid.is_right_segment ss ≡ true
    → list_any (shares_address (load_of a s)) (loads_of b ss)
    ≡ list_any (valid.shares_address s) ss
any_shares a b s [] is all = refl
any_shares a b s (t ∷ ss) is all =
    let parts = and_parts (valid.is_right_segment t) (list_all valid.is_right_segment ss) all in
    let first : shares_address (load_of a s) (load_of b t) ≡ valid.shares_address s t
    = shares_same a b s t is (right t parts.0) in
    let others : list_any (shares_address (load_of a s)) (loads_of (b + length t.bytes) ss)
    ≡ list_any (valid.shares_address s) ss
    = any_shares a (b + length t.bytes) s ss is parts.1 in
    ap (λ x. x || list_any (shares_address (load_of a s)) (loads_of (b + length t.bytes) ss)) first
    ∙ ap (λ x. valid.shares_address s t || x) others

overlap_same : (offset : ℕ) (ss : List Segment) → list_all valid.is_right_segment ss ≡ true
    → has_overlap (loads_of offset ss) ≡ valid.has_overlap ss
overlap_same offset [] all = refl
overlap_same offset (s ∷ ss) all =
    let parts = and_parts (valid.is_right_segment s) (list_all valid.is_right_segment ss) all in
    ap (λ x. x || has_overlap (loads_of (offset + length s.bytes) ss))
    (any_shares offset (offset + length s.bytes) s ss (right s parts.0) parts.1)
    ∙ ap (λ x. list_any (valid.shares_address s) ss || x)
    (overlap_same (offset + length s.bytes) ss parts.1)

-- ---- the segments

same_segment : (a f n : ℕ) (bs : List ℕ) (s : Segment) → f ≡ s.flags → bs ≡ s.bytes
    → a ≡ s.at → n ≡ s.size
    → (let x : Segment = record { at = a; flags = f; size = n; bytes = bs } in x) ≡ s
same_segment a f n bs s e g h i = rw (h, e, i, g) refl

segment_read : (bytes : List ℕ) (offset : ℕ) (s : Segment) (more : List ℕ) → IsRight s
    → drop offset bytes ≡ s.bytes ++ more → segment_of bytes (load_of offset s) ≡ s
segment_read bytes offset s more is stand =
    same_segment _ _ _ _ s (omega arith)
    (ap (λ (xs : List ℕ). take (length s.bytes) xs) stand ∙ take-append_seam s.bytes more) refl refl

segments_read : (bytes : List ℕ) (offset : ℕ) (ss : List Segment)
    → list_all valid.is_right_segment ss ≡ true → drop offset bytes ≡ segment_bytes ss
    → map (segment_of bytes) (loads_of offset ss) ≡ ss
segments_read bytes offset [] all stand = refl
segments_read bytes offset (s ∷ ss) all stand =
    let parts = and_parts (valid.is_right_segment s) (list_all valid.is_right_segment ss) all in
    let next : drop (offset + length s.bytes) bytes ≡ segment_bytes ss =
    sym (drop-drop (length s.bytes) offset bytes)
    ∙ (ap (λ (xs : List ℕ). drop (length s.bytes) xs) stand
    ∙ drop-append_seam s.bytes (segment_bytes ss)) in
    let first : segment_of bytes (load_of offset s) ≡ s
    = segment_read bytes offset s (segment_bytes ss) (right s parts.0) stand in
    let others : map (segment_of bytes) (loads_of (offset + length s.bytes) ss) ≡ ss
    = segments_read bytes (offset + length s.bytes) ss parts.1 next in
    cc

-- ---- the whole

-- what the bytes of an image's file are, part by part
record IsFile (entry : ℕ) (ss : List Segment) (bytes : List ℕ) : Type 0 where
  head : first_fault (file_checks bytes) ≡ None
  address : e_entry bytes ≡ entry
  count : e_phnum bytes ≡ length ss
  table : e_phoff bytes ≡ 64
  entry_size : e_phentsize bytes ≡ 56
  size : length bytes ≡ 64 + 56 * length ss + length (segment_bytes ss)
  headers : drop 64 bytes ≡ segment_headers (64 + 56 * length ss) ss ++ segment_bytes ss
  contents : drop (64 + 56 * length ss) bytes ≡ segment_bytes ss

entry_size_read : (entry count : ℕ) (more : List ℕ)
    → e_phentsize (file_header entry count ++ more) ≡ 56
unfolding file_header
entry_size_read entry count more = refl

is_file : (entry : ℕ) (ss : List Segment) → entry < 2 ^ 64 → IsFit entry ss
    → IsFile entry ss (file_header entry (length ss)
    ++ (segment_headers (first_offset ss) ss ++ segment_bytes ss))
is_file entry ss small fits =
    let few : length ss ≤ 16 = fits.few in
    let offset : ℕ = 64 + 56 * length ss in
    let table : List ℕ = segment_headers (64 + 56 * length ss) ss in
    let more : List ℕ = table ++ segment_bytes ss in
    let l : length table ≡ 56 * length ss = headers_length (64 + 56 * length ss) ss in
    let m : length more ≡ length table + length (segment_bytes ss)
    = length-append table (segment_bytes ss) in
    let n : length (file_header entry (length ss) ++ more) ≡ 64 + length more
    = header_length entry (length ss) more in
    let size : length (file_header entry (length ss) ++ more)
    ≡ 64 + 56 * length ss + length (segment_bytes ss) = omega arith in
    let total : 64 + 56 * length ss + length (segment_bytes ss) ≤ 2 ^ 24 = fits.size in
    record {
      head = head_clean entry (length ss) more few (omega arith);
      address = entry_read entry (length ss) more small;
      count = count_read entry (length ss) more (omega arith);
      table = offset_read entry (length ss) more;
      entry_size = entry_size_read entry (length ss) more;
      size = size;
      headers = header_drop entry (length ss) more;
      contents = sym (drop-drop (56 * length ss) 64 (file_header entry (length ss) ++ more))
          ∙ (ap (λ (xs : List ℕ). drop (56 * length ss) xs) (header_drop entry (length ss) more)
          ∙ (ap (λ k. drop k more) (sym l) ∙ drop-append_seam table (segment_bytes ss)));
    }

loads_read : (entry : ℕ) (ss : List Segment) (bytes : List ℕ) → IsFit entry ss
    → IsFile entry ss bytes → loads bytes ≡ loads_of (64 + 56 * length ss) ss
loads_read entry ss bytes fits is =
    let total : 64 + 56 * length ss + length (segment_bytes ss) ≤ 2 ^ 24 = fits.size in
    let start : e_phoff bytes + 56 * 0 ≡ 64 = omega (arith, is.table) in
    let all : program_headers bytes ≡ loads_of (64 + 56 * length ss) ss =
    ap (λ n. map (program_header bytes) (range_with_len 0 n)) is.count
    ∙ headers_read bytes (segment_bytes ss) (e_phoff bytes) 0 (64 + 56 * length ss) ss fits.all
    (omega arith) (ap (λ n. drop n bytes) start ∙ is.headers) in
    ap (λ hs. filter is_load hs) all ∙ each_is_load (64 + 56 * length ss) ss

segments_are : (entry : ℕ) (ss : List Segment) (bytes : List ℕ) → IsFit entry ss
    → IsFile entry ss bytes → segments_of bytes (loads bytes) ≡ ss
segments_are entry ss bytes fits is =
    ap (λ hs. segments_of bytes hs) (loads_read entry ss bytes fits is)
    ∙ (ap (λ hs. map (segment_of bytes) hs) (each_has_memory (64 + 56 * length ss) ss fits.all)
    ∙ segments_read bytes (64 + 56 * length ss) ss fits.all is.contents)

and_false : (a b : Bool) → b ≡ false → (a && b) ≡ false
and_false true b h = h
and_false false b h = refl

not_below : (a b : ℕ) → b ≤ a → nat_lt a b ≡ false
not_below a b h = grind (arith, nat_tests)

header_rows : (entry : ℕ) (ss : List Segment) (bytes : List ℕ) → IsFit entry ss
    → IsFile entry ss bytes → first_fault (header_checks bytes) ≡ None
unfolding header_checks
header_rows entry ss bytes fits is =
    let few : length ss ≤ 16 = fits.few in
    let ends : e_phoff bytes + 56 * e_phnum bytes ≤ length bytes
    = rw (is.table, is.count, is.size) (omega arith) in
    let number : length (loads bytes) ≡ length ss
    = ap length (loads_read entry ss bytes fits is) ∙ loads_count (64 + 56 * length ss) ss in
    none_more _ _ _ (and_false _ _ (ap (λ n. not (nat_eq n 56)) is.entry_size))
    (none_more _ _ _ (and_false _ _ (not_below (length bytes) (e_phoff bytes + 56 * e_phnum bytes) ends))
    (none_more _ _ _ (not_below 16 (length (loads bytes)) (omega arith)) refl))

right_entry : (entry : ℕ) (ss : List Segment) (bytes : List ℕ) → IsFit entry ss
    → IsFile entry ss bytes → has_wrong_entry bytes ≡ false
right_entry entry ss bytes fits is =
    let wrong : ℕ → List Segment → Bool = λ a xs.
    not (nat_eq (a % 4) 0) || not (segments_permission xs (page_of a)).executable in
    ap (λ a. wrong a (segments_of bytes (loads bytes))) is.address
    ∙ (ap (λ xs. wrong entry xs) (segments_are entry ss bytes fits is)
    ∙ or_false _ _ (not_false _ (eq-eqb (entry % 4) 0 fits.aligned))
    (not_false _ fits.executable))

segment_rows : (entry : ℕ) (ss : List Segment) (bytes : List ℕ) → IsFit entry ss
    → IsFile entry ss bytes → first_fault (segment_checks bytes) ≡ None
unfolding segment_checks
segment_rows entry ss bytes fits is =
    let found : loads bytes ≡ loads_of (64 + 56 * length ss) ss
    = loads_read entry ss bytes fits is in
    let offset : ℕ = 64 + 56 * length ss in
    let total : 64 + 56 * length ss + length (segment_bytes ss) ≤ 2 ^ 24 = fits.size in
    let inside : 64 + 56 * length ss + length (segment_bytes ss) ≤ length bytes
    = omega (arith, is.size) in
    let sizes : file_sizes (loads bytes) ≤ 2 ^ 24
    = rw (found, sizes_read (64 + 56 * length ss) ss) (omega arith) in
    none_more _ _ _ (ap (λ hs. list_any (has_wrong_range (length bytes)) hs) found
    ∙ right_ranges (length bytes) (64 + 56 * length ss) ss fits.all inside)
    (none_more _ _ _ (not_below (2 ^ 24) (file_sizes (loads bytes)) sizes)
    (none_more _ _ _ (ap (λ hs. list_any has_wrong_address hs) found
    ∙ right_addresses (64 + 56 * length ss) ss fits.all)
    (none_more _ _ _ (ap (λ hs. has_overlap hs) found
    ∙ (overlap_same (64 + 56 * length ss) ss fits.all ∙ fits.apart))
    (none_more _ _ _ (right_entry entry ss bytes fits is) refl))))

same_image : (image : Image) (a : ℕ) (ss : List Segment) → a ≡ image.entry → ss ≡ image.segments
    → (let x : Image = record { entry = a; segments = ss } in x) ≡ image
same_image image a ss e h = rw (e, h) refl

read_file : (image : Image) (bytes : List ℕ) → IsFit image.entry image.segments
    → IsFile image.entry image.segments bytes → elf bytes ≡ Ok image
read_file image bytes fits is =
    let clear : first_fault (checks bytes) ≡ None =
    none_both (file_checks bytes) (header_checks bytes ++ segment_checks bytes) is.head
    (none_both (header_checks bytes) (segment_checks bytes)
    (header_rows image.entry image.segments bytes fits is)
    (segment_rows image.entry image.segments bytes fits is)) in
    let same : image_of bytes ≡ image = same_image image _ _ is.address
    (segments_are image.entry image.segments bytes fits is) in
    ap (λ o. image_unless o (image_of bytes)) clear ∙ ap (λ i. Ok i) same

-- the file of a valid image is read to the image
pub reads_back : (image : Image) → image.entry < 2 ^ 64 → valid.is_valid image ≡ true
    → elf (written image) ≡ Ok image
reads_back image small h =
    read_file image (written image) (fit image h)
    (is_file image.entry image.segments small (fit image h))
