-- Lines with their ends, and room for each of them.
use Rattle.std.specs.Prelude.{ℕ, ◌+◌, ◌≤◌, List, length}
use Rattle.std.specs.List.{All, flat_map}
use Rattle.batch_model.specs.Text.{ended}

-- so many bytes hold a line and its end
abbrev pub Fits : (room : ℕ) → (line : List ℕ) → Type 0
Fits room line = length line + 1 ≤ room

-- they hold the line of each, one at a time
abbrev pub AllFit : {A : Type 0} → (spelled : A → List ℕ) → (room : ℕ) → List A → Type 0
AllFit spelled room items = All (λ item. Fits room (spelled item)) items

-- the lines of all, in their order, each with its end
abbrev pub lines_text : {A : Type 0} → (spelled : A → List ℕ) → List A → List ℕ
lines_text spelled items = flat_map (λ item. ended (spelled item)) items
