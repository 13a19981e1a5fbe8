-- The status and the line of each refusal. What a command is refused for besides has a status and
-- a line of its own.
use Rattle.std.specs.Prelude.{ℕ, ◌<◌, ◌⊎◌, List, codes}
use Rattle.command_parts.specs.declared.refusal.Refusal.{Refusal}
use Rattle.command_parts.specs.declared.refusal.Refusal.TheVariants.{Own, Size, Read, Write}
use Rattle.command_parts.specs.declared.refusal.Refusal.TheVariants.{File, Memory}

abbrev pub status_of : {C : Type 0} → (own : C → ℕ) → Refusal C → ℕ
status_of own (Own cause) = own cause
status_of own Size = 3
status_of own Read = 4
status_of own Write = 5
status_of own File = 6
status_of own Memory = 7

-- what is said of a refusal
abbrev pub line_of : {C : Type 0} → (own : C → List ℕ) → Refusal C → List ℕ
line_of own (Own cause) = own cause
line_of own Size = codes "seuss: size\n"
line_of own Read = codes "seuss: read fault\n"
line_of own Write = codes "seuss: write fault\n"
line_of own File = codes "seuss: file fault\n"
line_of own Memory = codes "seuss: memory\n"

-- a status that a command's own cause may have: neither done, nor arguments in no form, nor one
-- of the statuses 4 to 7 that all share
abbrev pub IsOwnStatus : ℕ → Type 0
IsOwnStatus status = (1 < status) × ((status < 4) ⊎ (7 < status))
