-- Lists of limited room in the order of last use.
use Rattle.std.specs.Prelude.{ℕ, ◌-◌, Bool, ◌==◌, if◌then◌else◌, List, ◌∷◌, length, take, slice_get}
use Rattle.std.specs.Prelude.{Option, None}

-- keys with their values, the most recently used first, and how many there may be
pub record Recent (K V : Type 0) : Type 0 where
  pub room : ℕ
  pub entries : List (K × V)

module _ {K V : Type 0} where
  -- whether a further entry pushes one out
  abbrev pub is_full : Recent K V → Bool
  is_full list = length list.entries == list.room

  -- the least recently used entry
  abbrev pub last_of : Recent K V → Option (K × V)
  last_of list = slice_get list.entries (length list.entries - 1)

  -- the entry that a further one pushes out
  abbrev pub pushed_out : Recent K V → Option (K × V)
  pushed_out list = if is_full list then last_of list else None

  -- the list with a further entry in front, which pushes the last out of a full list
  abbrev pub with_first : K → V → Recent K V → Recent K V
  with_first key value list =
      record { room = list.room; entries = (key, value) ∷ take (list.room - 1) list.entries }

  -- the list with other entries
  abbrev pub with_entries : List (K × V) → Recent K V → Recent K V
  with_entries entries list = record { room = list.room; entries = entries }
