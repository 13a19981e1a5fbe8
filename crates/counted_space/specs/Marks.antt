-- Sets of pages, as lists of their numbers.
use Rattle.std.specs.Prelude.{ℕ, ◌==◌, nat_le, nat_lt, Bool, ◌&&◌, List}
use Rattle.std.specs.List.{list_any}

-- the page is listed
abbrev pub is_marked : List ℕ → ℕ → Bool
is_marked pages page = list_any (λ p. p == page) pages

-- a page from the first on, and below the end, is listed
abbrev pub has_between : List ℕ → (first end : ℕ) → Bool
has_between pages first end = list_any (λ p. nat_le first p && nat_lt p end) pages
