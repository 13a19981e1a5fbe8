-- What a write of a file does to the files, where they are told.
use Rattle.std.specs.Prelude.{◌≡◌, ◌≢◌, ℕ, List, Option, Some, None, IsSomeAnd}

-- the file of this name holds these bytes
abbrev pub Stores : List ℕ → List ℕ → Option (List ℕ → Option (List ℕ))
    → Option (List ℕ → Option (List ℕ)) → Type 0
Stores name bytes None after = Unit {0}
Stores name bytes (Some before) after = IsSomeAnd after (λ file_of. file_of name ≡ Some bytes)

-- every other file stayed as it was
abbrev pub KeepsOthers : List ℕ → Option (List ℕ → Option (List ℕ))
    → Option (List ℕ → Option (List ℕ)) → Type 0
KeepsOthers name None after = Unit {0}
KeepsOthers name (Some before) after = IsSomeAnd after
    (λ file_of. (other : List ℕ) → other ≢ name → file_of other ≡ before other)
