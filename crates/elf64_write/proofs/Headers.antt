-- What is read in the file of an image: its headers.
use Rattle.std.proofs.Common.{◌≡◌, ℕ, ◌+◌, ◌*◌, ◌^◌, ◌<◌, ◌≤◌, List, [], ◌∷◌, ◌++◌, map, take, drop}
use Rattle.std.proofs.Common.{length, true, refl, sym, ap, ◌∙◌, arith, append_assoc}
use Rattle.std.proofs.lemmas.Bool.{and_parts}
use Rattle.std.proofs.lemmas.Bool.Decides.{nat_tests}
use Rattle.std.proofs.lemmas.List.{drop-drop, length-append}
use Rattle.std.proofs.lemmas.Nat.{from_le_bytes-to_le_bytes_4, from_le_bytes-to_le_bytes_8}
use Rattle.std.specs.Int.{Width, w32, w64, byte_len, from_le_bytes}
use Rattle.std.specs.List.{list_all, range_with_len}
use Rattle.image_model.specs.Valid.{is_right_segment}
use Rattle.image_model.specs.declared.image.Segment.{Segment}
use Rattle.elf64.specs.Fields.{number_at, program_header_at}
use Rattle.elf64_write.specs.Written.{segment_header, segment_headers, segment_bytes}
use Rattle.elf64.specs.declared.program_header.ProgramHeader.{ProgramHeader}

-- a segment that is right by itself
pub record IsRight (s : Segment) : Type 0 where
  pub nonempty : 0 < s.size
  pub lowest : 0x1000 ≤ s.at
  pub highest : s.at + s.size ≤ 0x3fc0000000
  pub flags : s.flags ≤ 7
  pub bytes : length s.bytes ≤ s.size

pub right : (s : Segment) → is_right_segment s ≡ true → IsRight s
right s h = record {
  nonempty = grind (arith, nat_tests);
  lowest = grind (arith, nat_tests);
  highest = grind (arith, nat_tests);
  flags = grind (arith, nat_tests);
  bytes = grind (arith, nat_tests);
}

-- ---- one header

-- the PT_LOAD of a segment whose bytes begin at an offset
abbrev pub load_of : (offset : ℕ) → Segment → ProgramHeader
load_of offset s = record {
  p_type = 1;
  p_flags = s.flags;
  p_offset = offset;
  p_vaddr = s.at;
  p_filesz = length s.bytes;
  p_memsz = s.size;
}

number_behind : (w : Width) (bytes : List ℕ) (at k : ℕ)
    → number_at w bytes (at + k) ≡ number_at w (drop at bytes) k
number_behind w bytes at k =
    ap (λ (xs : List ℕ). from_le_bytes w (take (byte_len w) xs)) (sym (drop-drop k at bytes))

same_header : (t f o v n m t' f' o' v' n' m' : ℕ) → t ≡ t' → f ≡ f' → o ≡ o' → v ≡ v' → n ≡ n'
    → m ≡ m'
    → (let x : ProgramHeader = record { p_type = t; p_flags = f; p_offset = o; p_vaddr = v; p_filesz = n; p_memsz = m } in x)
    ≡ (let x : ProgramHeader = record { p_type = t'; p_flags = f'; p_offset = o'; p_vaddr = v'; p_filesz = n'; p_memsz = m' } in x)
same_header t f o v n m t' f' o' v' n' m' a b c d e g = cc

-- a header is that of the file from there on
header_behind : (bytes : List ℕ) (at : ℕ)
    → program_header_at bytes at ≡ program_header_at (drop at bytes) 0
header_behind bytes at =
    same_header _ _ _ _ _ _ _ _ _ _ _ _ refl (number_behind w32 bytes at 4)
    (number_behind w64 bytes at 8) (number_behind w64 bytes at 16) (number_behind w64 bytes at 32)
    (number_behind w64 bytes at 40)

-- the header of a segment reads as its PT_LOAD
header_read : (offset : ℕ) (s : Segment) (more : List ℕ) → IsRight s → offset < 2 ^ 64
    → program_header_at (segment_header offset s ++ more) 0 ≡ load_of offset s
unfolding segment_header
header_read offset s more is small =
    same_header _ _ _ _ _ _ _ _ _ _ _ _ refl (from_le_bytes-to_le_bytes_4 s.flags (omega arith))
    (from_le_bytes-to_le_bytes_8 offset small) (from_le_bytes-to_le_bytes_8 s.at (omega arith))
    (from_le_bytes-to_le_bytes_8 (length s.bytes) (omega arith))
    (from_le_bytes-to_le_bytes_8 s.size (omega arith))

header_length : (offset : ℕ) (s : Segment) (more : List ℕ)
    → length (segment_header offset s ++ more) ≡ 56 + length more
unfolding segment_header
header_length offset s more = omega arith

header_drop : (offset : ℕ) (s : Segment) (more behind : List ℕ)
    → drop 56 ((segment_header offset s ++ more) ++ behind) ≡ more ++ behind
unfolding segment_header
header_drop offset s more behind = refl

-- ---- all headers

-- the PT_LOADs of segments whose bytes begin at an offset, one after the other
abbrev pub loads_of : (offset : ℕ) → List Segment → List ProgramHeader
loads_of offset [] = []
loads_of offset (s ∷ ss) = load_of offset s ∷ loads_of (offset + length s.bytes) ss

pub headers_length : (offset : ℕ) (ss : List Segment)
    → length (segment_headers offset ss) ≡ 56 * length ss
headers_length offset [] = refl
headers_length offset (s ∷ ss) =
    header_length offset s (segment_headers (offset + length s.bytes) ss)
    ∙ (let before : length (segment_headers (offset + length s.bytes) ss) ≡ 56 * length ss
    = headers_length (offset + length s.bytes) ss in omega arith)

-- the headers at a base read as the PT_LOADs of the segments
pub headers_read : (bytes behind : List ℕ) (base at offset : ℕ) (ss : List Segment)
    → list_all is_right_segment ss ≡ true → offset + length (segment_bytes ss) < 2 ^ 64
    → drop (base + 56 * at) bytes ≡ segment_headers offset ss ++ behind
    → map (λ i. program_header_at bytes (base + 56 * i)) (range_with_len at (length ss))
    ≡ loads_of offset ss
headers_read bytes behind base at offset [] all small stand = refl
headers_read bytes behind base at offset (s ∷ ss) all small stand =
    let parts : (is_right_segment s ≡ true) × (list_all is_right_segment ss ≡ true)
    = and_parts _ _ all in
    let more : List ℕ = segment_headers (offset + length s.bytes) ss in
    let count : length (s.bytes ++ segment_bytes ss) ≡ length s.bytes + length (segment_bytes ss)
    = length-append s.bytes (segment_bytes ss) in
    let e : base + 56 * (at + 1) ≡ base + 56 * at + 56 = omega arith in
    let first : program_header_at bytes (base + 56 * at) ≡ load_of offset s =
    header_behind bytes (base + 56 * at)
    ∙ (ap (λ (xs : List ℕ). program_header_at xs 0) stand
    ∙ (ap (λ (xs : List ℕ). program_header_at xs 0) (append_assoc (segment_header offset s) more behind)
    ∙ header_read offset s (more ++ behind) (right s parts.0) (omega arith))) in
    let next : drop (base + 56 * (at + 1)) bytes ≡ more ++ behind =
    ap (λ n. drop n bytes) e ∙ (sym (drop-drop 56 (base + 56 * at) bytes)
    ∙ (ap (λ (xs : List ℕ). drop 56 xs) stand ∙ header_drop offset s more behind)) in
    let others : map (λ i. program_header_at bytes (base + 56 * i))
    (range_with_len (at + 1) (length ss)) ≡ loads_of (offset + length s.bytes) ss =
    headers_read bytes behind base (at + 1) (offset + length s.bytes) ss parts.1 (omega arith) next in
    cc
