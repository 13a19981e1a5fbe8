-- Bytes that go to a sink in pieces, through a buffer that holds some of them back.
use Rattle.std.specs.Prelude.{◌≡◌, ℕ, ◌<◌, ◌≤◌, Bool, true, false, List, [], ◌++◌, length, take}
use Rattle.std.specs.Prelude.{Option}
use Rattle.edge_streams.specs.Content.{Adds}
use Rattle.edge_streams.specs.Faults.{Rises}

-- what a buffer holds back, and whether a write failed; nothing goes out from then on
pub record Held : Type 0 where
  pub bytes : List ℕ
  pub failed : Bool

abbrev pub nothing_held : Held
nothing_held = record { bytes = []; failed = false }

-- a sink, by what it tells and counts, and the buffer before it
pub record Way : Type 0 where
  pub contents : Option (List ℕ)
  pub faults : ℕ
  pub held : Held

abbrev pub way : {K : Type 0} → (contents : K → Option (List ℕ)) → (faults : K → ℕ) → K → Held
    → Way
way contents faults sink held =
    record { contents = contents sink; faults = faults sink; held = held }

-- all of the bytes were written but those that are held back
abbrev pub IsWrittenBut : (held bytes : List ℕ) → (before after : Option (List ℕ)) → Type 0
IsWrittenBut held bytes before after =
    (out : List ℕ) × (out ++ held ≡ bytes) × Adds out before after

-- a part of the bytes from the front was written
abbrev pub IsCut : (bytes : List ℕ) → (before after : Option (List ℕ)) → Type 0
IsCut bytes before after =
    (part : ℕ) × (part < length bytes) × Adds (take part bytes) before after

-- These bytes were sent since the sink told `before` and counted `faults`: but for what is held
-- back they were written, or a write failed behind a part of them.
pub record IsSent (bytes : List ℕ) (before : Option (List ℕ)) (faults : ℕ) (now : Way)
    : Type 0 where
  pub never_falls : faults ≤ now.faults
  pub counted : now.held.failed ≡ false → now.faults ≡ faults
  pub written : now.held.failed ≡ false
      → IsWrittenBut now.held.bytes bytes before now.contents
  pub rises : now.held.failed ≡ true → Rises faults now.faults
  pub cut : now.held.failed ≡ true → IsCut bytes before now.contents

-- whatever was sent before, these bytes were sent behind it
abbrev pub Sends : List ℕ → (old new : Way) → Type 0
Sends bytes old new =
    (sent : List ℕ) (before : Option (List ℕ)) (faults : ℕ)
    → IsSent sent before faults old → IsSent (sent ++ bytes) before faults new

-- whatever was sent before, all of it was written
abbrev pub IsAllWritten : (old : Way) → (after : Option (List ℕ)) → (faults_after : ℕ) → Type 0
IsAllWritten old after faults_after =
    (sent : List ℕ) (before : Option (List ℕ)) (faults : ℕ)
    → IsSent sent before faults old → (faults_after ≡ faults) × Adds sent before after

-- whatever was sent before, a write failed behind a part of it
abbrev pub IsAllCut : (old : Way) → (after : Option (List ℕ)) → (faults_after : ℕ) → Type 0
IsAllCut old after faults_after =
    (sent : List ℕ) (before : Option (List ℕ)) (faults : ℕ)
    → IsSent sent before faults old → Rises faults faults_after × IsCut sent before after
