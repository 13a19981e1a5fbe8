-- The machine: registers, a flat memory of bytes with permissions by page, and the packets and
-- console bytes of a run. It has no frame, page table, snapshot or thread.
use Rattle.std.specs.Prelude.{ℕ, zero, suc, ◌+◌, ◌-◌, ◌*◌, ◌/◌, ◌%◌, ◌^◌, min, nat_lt, ◌==◌, Bool}
use Rattle.std.specs.Prelude.{true, ◌&&◌, ◌||◌, if◌then◌else◌, List, [], ◌∷◌, ◌++◌, length}
use Rattle.std.specs.Prelude.{slice_index, slice_set, Option, Some, None}
use Rattle.image_model.specs.Pages.{page_of, page_limit}
use Rattle.image_model.specs.Permission.{Permission}

pub record Machine : Type 0 where
  -- 32 words; the first of them, x0, is 0
  pub registers : List ℕ
  pub pc : ℕ
  -- whether it waits for a packet
  pub resting : Bool
  -- the byte at each address, 0 where nothing was said
  pub memory : ℕ → ℕ
  -- what may be done with each page
  pub permissions : ℕ → Permission
  -- the set of pages that were written
  pub written : ℕ → Bool
  -- the packets that come in and weren't read yet, the next one first
  pub queue : List (List ℕ)
  -- the packets written in this run, the oldest first, and the console bytes
  pub sent : List (List ℕ)
  pub console : List ℕ

-- ---- registers

abbrev pub register : Machine → ℕ → ℕ
register m r = slice_index m.registers r

-- a write of x0 is lost
abbrev pub with_register : ℕ → ℕ → List ℕ → List ℕ
with_register r value registers = if r == 0 then registers else slice_set registers r value

-- ---- addresses, which are words: after the last comes 0

-- the address of the byte that is i bytes after `at`
abbrev pub address : (at i : ℕ) → ℕ
address at i = (at + i) % 2 ^ 64

-- how many bytes the address a is after `at`
abbrev pub distance : (at a : ℕ) → ℕ
distance at a = (a + 2 ^ 64 - at) % 2 ^ 64

-- ---- which bytes of a range may be accessed

abbrev pub is_readable : Machine → ℕ → Bool
is_readable m a = (m.permissions (page_of a)).readable

abbrev pub is_writable : Machine → ℕ → Bool
is_writable m a = (m.permissions (page_of a)).writable

abbrev pub is_executable : Machine → ℕ → Bool
is_executable m a = (m.permissions (page_of a)).executable

-- each of n addresses from `at` on passes the test
unfoldable pub range_passes : (ℕ → Bool) → (at n : ℕ) → Bool
range_passes test at zero = true
range_passes test at (suc n) = range_passes test at n && test (address at n)

abbrev pub lesser : Option ℕ → Option ℕ → Option ℕ
lesser None b = b
lesser (Some a) None = Some a
lesser (Some a) (Some b) = Some (min a b)

-- the least of n addresses from `at` on that fails the test, if one does
unfoldable pub least_failing : (ℕ → Bool) → (at n : ℕ) → Option ℕ
least_failing test at zero = None
least_failing test at (suc n) =
    lesser (least_failing test at n) (if test (address at n) then None else Some (address at n))

-- ---- bytes of memory

-- n bytes of memory from `at` on
unfoldable pub bytes_at : (ℕ → ℕ) → (at n : ℕ) → List ℕ
bytes_at memory at zero = []
bytes_at memory at (suc n) = bytes_at memory at n ++ memory (address at n) ∷ []

-- memory with these bytes from `at` on
abbrev pub with_bytes : ℕ → List ℕ → (ℕ → ℕ) → ℕ → ℕ
with_bytes at bytes memory a =
    if nat_lt a (2 ^ 64) && nat_lt (distance at a) (length bytes)
    then slice_index bytes (distance at a)
    else memory a

-- the number that bytes spell, the lowest byte first
abbrev pub little_endian : List ℕ → ℕ
little_endian [] = 0
little_endian (b ∷ bs) = b + 2 ^ 8 * little_endian bs

-- the n lowest bytes of a number, the lowest first
unfoldable pub low_bytes : (n v : ℕ) → List ℕ
low_bytes zero v = []
low_bytes (suc n) v = v % 2 ^ 8 ∷ low_bytes n (v / 2 ^ 8)

-- ---- written pages

-- the set with each page on which one of n addresses from `at` on is
unfoldable pub with_written : (at n : ℕ) → (ℕ → Bool) → ℕ → Bool
with_written at zero written page = written page
with_written at (suc n) written page =
    with_written at n written page || page == page_of (address at n)

-- how many pages below the n-th are in the set
unfoldable pub count_below : (ℕ → Bool) → (n : ℕ) → ℕ
count_below written zero = 0
count_below written (suc n) = if written n then count_below written n + 1 else count_below written n

-- how many pages were written
abbrev pub written_count : Machine → ℕ
written_count m = count_below m.written page_limit

-- the machine whose program stored these bytes from `at` on
abbrev pub with_store : ℕ → List ℕ → Machine → Machine
with_store at bytes m = record m {
  memory = with_bytes at bytes m.memory;
  written = with_written at (length bytes) m.written;
}
