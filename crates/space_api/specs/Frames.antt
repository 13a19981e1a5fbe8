-- How many frames a set of written pages takes, and who spends them.
use Rattle.std.specs.Prelude.{◌≡◌, ℕ, zero, suc, ◌+◌, ◌-◌, ◌*◌, ◌/◌, ◌^◌, ◌≤◌, ◌<◌, Bool, true}
use Rattle.std.specs.Prelude.{false, ◌||◌, if◌then◌else◌, List, [], ◌∷◌, sum_by}
use Rattle.image_model.specs.Pages.{page_limit}
use Rattle.machine_model.specs.Machine.{count_below, with_written}

-- A frame of a level b stands for 2 ^ b pages in a row, a span. A page is a span of its own, and
-- two levels of tables stand for 2 ^ 21 and 2 ^ 30 bytes.
abbrev pub levels : List ℕ
levels = 0 ∷ 9 ∷ 18 ∷ []

-- one of n pages from the first on is in the set
unfoldable pub some_written : (ℕ → Bool) → (first n : ℕ) → Bool
some_written written first zero = false
some_written written first (suc n) = some_written written first n || written (first + n)

-- how many spans of a level have a page of the set
abbrev pub spans_at : (b : ℕ) → (ℕ → Bool) → ℕ
spans_at b written =
    count_below (λ span. some_written written (span * 2 ^ b) (2 ^ b)) (page_limit / 2 ^ b)

-- the frames of the set: its pages, and the spans of each level in which they stand
unfoldable pub frames_of : (ℕ → Bool) → ℕ
frames_of written = sum_by (λ b. spans_at b written) levels

-- how many frames a write of n bytes at an address takes at most, where frames are taken
abbrev pub need : (takes : Bool) → (written : ℕ → Bool) → (at n : ℕ) → ℕ
need takes written at n =
    if takes then frames_of (with_written at n written) - frames_of written else 0

-- frames are taken, and from the one set to the other it takes more of them than there are spares
pub record LacksFrames (takes : Bool) (spares : ℕ) (old new : ℕ → Bool) : Type 0 where
  pub takes_frames : takes ≡ true
  pub few : spares + frames_of old < frames_of new

-- ---- what is spent

-- how many spares a space holds at most
abbrev pub spares_limit : ℕ
spares_limit = 16

-- From the one set to the other at most as many spares are spent as it takes frames, and none where
-- no frames are taken.
pub record Spent (takes : Bool) (old : ℕ) (before : ℕ → Bool) (new : ℕ) (after : ℕ → Bool)
    : Type 0 where
  pub never_more : new ≤ old
  pub paid : takes ≡ true → old + frames_of before ≤ new + frames_of after
  pub unpaid : takes ≡ false → new ≡ old
