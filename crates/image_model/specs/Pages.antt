-- Memory comes in pages of 4,096 bytes (RISC-V privileged manual, "Sv39: Page-Based 39-bit
-- Virtual-Memory System"), which have numbers.
use Rattle.std.specs.Prelude.{ℕ, ◌*◌, ◌/◌, ◌^◌}

-- how many bytes a page has
abbrev pub page_size : ℕ
page_size = 2 ^ 12

-- the page that an address is on
abbrev pub page_of : ℕ → ℕ
page_of a = a / page_size

-- a page's first address
abbrev pub page_start : ℕ → ℕ
page_start page = page * page_size

-- programs and their stacks lie on the pages below this one, at addresses below 2 ^ 38
abbrev pub page_limit : ℕ
page_limit = 2 ^ 26
