-- How many frames a set of written pages takes more when it grows.
use Rattle.std.specs.Prelude.{◌≡◌, ℕ, ◌+◌, ◌-◌, ◌*◌, ◌/◌, ◌^◌, ◌≤◌, ◌==◌, nat_le, nat_lt}
use Rattle.std.specs.Prelude.{Bool, true, false, ◌&&◌, ◌||◌, if◌then◌else◌}
use Rattle.image_model.specs.Pages.{page_of}
use Rattle.space_api.specs.Frames.{some_written}

-- the set with one page more
abbrev pub with_page : (page : ℕ) → (ℕ → Bool) → ℕ → Bool
with_page page written p = written p || p == page

-- the set with n pages in a row more, from the first on
abbrev pub with_pages : (first n : ℕ) → (ℕ → Bool) → ℕ → Bool
with_pages first n written p = written p || (nat_le first p && nat_lt p (first + n))

-- how many pages n bytes from `at` on lie on, where there are some and they don't go round
abbrev pub pages_across : (at n : ℕ) → ℕ
pages_across at n = page_of (at + n - 1) + 1 - page_of at

-- a page of the set is in the span of a level in which this page stands
abbrev pub has_span : (ℕ → Bool) → (b page : ℕ) → Bool
has_span written b page = some_written written (page / 2 ^ b * 2 ^ b) (2 ^ b)

abbrev pub none_yet : Bool → ℕ
none_yet there = if there then 0 else 1

-- the frames that one page more takes: one for itself and one for each of its two spans, where
-- they are new
unfoldable pub page_need : (ℕ → Bool) → (page : ℕ) → ℕ
page_need written page =
    none_yet (written page) + none_yet (has_span written 9 page)
    + none_yet (has_span written 18 page)

-- what is in the one set and not in the other stands among k + 1 numbers from a on
abbrev pub GrowsWithin : (before after : ℕ → Bool) → (a k : ℕ) → Type 0
GrowsWithin before after a k =
    (s : ℕ) → after s ≡ true → before s ≡ false → (a ≤ s) × (s ≤ a + k)

-- the most frames that one write takes: 9 pages, and 2 spans of each of two levels
abbrev pub write_need : ℕ
write_need = 13
