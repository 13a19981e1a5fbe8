-- How many PT_LOADs there are, and how many file bytes they have.
use Rattle.std.proofs.Common.{◌≡◌, ℕ, zero, suc, ◌+◌, ◌*◌, ◌^◌, ◌≤◌, ◌<◌, ◌≢◌, ◌↔◌, IsTrue, nat_lt}
use Rattle.std.proofs.Common.{Bool, true, false, if◌then◌else◌, List, [], ◌∷◌, ◌++◌, map, length}
use Rattle.std.proofs.Common.{refl, sym, ap, ◌∙◌, arith, length-append}
use Rattle.std.proofs.lemmas.Bool.{or_parts}
use Rattle.std.proofs.lemmas.Bool.Decides.{nat_tests}
use Rattle.std.proofs.lemmas.List.{append-nil}
use Rattle.std.proofs.lemmas.List.FromFn.{filter_of_map_range_with_len_more}
use Rattle.std.proofs.lemmas.List.Sums.{sum_by-cons}
use Rattle.std.specs.List.{filter, list_any, range_with_len}
use Rattle.elf64.specs.Elf.{has_too_many_loads}
use Rattle.elf64.specs.Fields.{e_phnum, program_header}
use Rattle.elf64.specs.Segments.{file_sizes, has_wrong_range, is_load, loads}
use Rattle.elf64.specs.declared.program_header.ProgramHeader.{ProgramHeader}

-- ---- PT_LOADs among the first headers

filter_grows : {X : Type 0} (p : X → Bool) (f : ℕ → X) (a i n : ℕ) → i ≤ n
    → length (filter p (map f (range_with_len a i)))
    ≤ length (filter p (map f (range_with_len a n)))
filter_grows p f a zero n h = omega arith
filter_grows p f a (suc i) zero h = absurd (omega arith)
filter_grows {X} p f a (suc i) (suc n) h =
    let some : List X = filter p (map f (range_with_len (a + 1) i)) in
    let all : List X = filter p (map f (range_with_len (a + 1) n)) in
    let more : length some ≤ length all = filter_grows p f (a + 1) i n (omega arith) in
    elim (p (f a)) as (λ v. length (if v then f a ∷ some else some)
    ≤ length (if v then f a ∷ all else all))
    [ true ↦ omega arith | false ↦ more ]

-- a PT_LOAD is one more
pub load_more : (bytes : List ℕ) (found : List ProgramHeader) (i : ℕ) (h : ProgramHeader)
    → found ≡ filter is_load (map (program_header bytes) (range_with_len 0 i))
    → h ≡ program_header bytes i → is_load h ≡ true
    → found ++ h ∷ [] ≡ filter is_load (map (program_header bytes) (range_with_len 0 (i + 1)))
load_more bytes found i h before is load =
    let kept : List ProgramHeader
    = filter is_load (map (program_header bytes) (range_with_len 0 i)) in
    let e : found ++ h ∷ [] ≡ kept ++ (if is_load h then h ∷ [] else []) = rw (load, before) refl in
    e ∙ ap (λ x. kept ++ (if is_load x then x ∷ [] else [])) is
    ∙ sym (filter_of_map_range_with_len_more is_load (program_header bytes) 0 i i (omega arith))

-- another header isn't
pub other_more : (bytes : List ℕ) (found : List ProgramHeader) (i : ℕ) (h : ProgramHeader)
    → found ≡ filter is_load (map (program_header bytes) (range_with_len 0 i))
    → h ≡ program_header bytes i → is_load h ≡ false
    → found ≡ filter is_load (map (program_header bytes) (range_with_len 0 (i + 1)))
other_more bytes found i h before is other =
    let kept : List ProgramHeader
    = filter is_load (map (program_header bytes) (range_with_len 0 i)) in
    let e : found ≡ kept ++ (if is_load h then h ∷ [] else []) = rw (other, append-nil) before in
    e ∙ ap (λ x. kept ++ (if is_load x then x ∷ [] else [])) is
    ∙ sym (filter_of_map_range_with_len_more is_load (program_header bytes) 0 i i (omega arith))

-- a list that isn't full has room
pub one_more : (n : ℕ) (full : Bool) → (IsTrue full ↔ (n ≡ 16)) → full ≡ false → n ≤ 16 → n + 1 ≤ 16
one_more n full tells other few =
    let below : n ≢ 16 = λ e. absurd
    (let t : full ≡ true = tells.1 e in let d : true ≡ false = sym t ∙ other in cc) in
    omega arith

is_above : (n : ℕ) → 16 < n → true ≡ nat_lt 16 n
is_above n h = grind (arith, nat_tests)

-- a PT_LOAD behind sixteen
pub too_many : (bytes : List ℕ) (found : List ProgramHeader) (i : ℕ) (h : ProgramHeader)
    → found ≡ filter is_load (map (program_header bytes) (range_with_len 0 i)) → length found ≡ 16
    → h ≡ program_header bytes i → is_load h ≡ true → i < e_phnum bytes
    → true ≡ has_too_many_loads bytes
too_many bytes found i h before full is load below =
    let e : length (found ++ h ∷ [])
    ≡ length (filter is_load (map (program_header bytes) (range_with_len 0 (i + 1))))
    = ap length (load_more bytes found i h before is load) in
    let grows : length (filter is_load (map (program_header bytes) (range_with_len 0 (i + 1))))
    ≤ length (loads bytes)
    = filter_grows is_load (program_header bytes) 0 (i + 1) (e_phnum bytes) (omega arith) in
    let count : length (found ++ h ∷ []) ≡ length found + 1 = length-append found (h ∷ []) in
    is_above (length (loads bytes)) (omega arith)

-- ---- file bytes

size_bound : (n : ℕ) (h : ProgramHeader) → has_wrong_range n h ≡ false → h.p_filesz ≤ n
size_bound n h ranges = grind (arith, nat_tests)

le_along : (a b c : ℕ) → a ≡ b → b ≤ c → a ≤ c
le_along a b c e h = omega arith

sum_bound : (n : ℕ) (hs : List ProgramHeader) → n ≤ 2 ^ 24
    → list_any (has_wrong_range n) hs ≡ false → file_sizes hs ≤ length hs * 2 ^ 24
sum_bound n [] small ranges = omega arith
sum_bound n (h ∷ hs) small ranges =
    let parts : (has_wrong_range n h ≡ false) × (list_any (has_wrong_range n) hs ≡ false)
    = or_parts _ _ ranges in
    let first : h.p_filesz ≤ n = size_bound n h parts.0 in
    let others : file_sizes hs ≤ length hs * 2 ^ 24 = sum_bound n hs small parts.1 in
    le_along _ _ _ (sum_by-cons (λ h. h.p_filesz) h hs) (omega arith)

-- at most sixteen PT_LOADs in a file that isn't too large have few file bytes
pub small_sum : (n : ℕ) (hs : List ProgramHeader) → n ≤ 2 ^ 24 → length hs ≤ 16
    → list_any (has_wrong_range n) hs ≡ false → file_sizes hs < 2 ^ 64
small_sum n hs small few ranges = omega (arith, sum_bound n hs small ranges)
