-- How a command ends.
use Rattle.std.specs.Prelude.{◌≡◌, ◌≢◌, ℕ, ◌⊎◌, List, [], ◌∷◌, take, Result, Ok, Err}
use Rattle.std.specs.Prelude.{IfErr}
use Rattle.edge_streams.specs.Content.{Adds}
use Rattle.elf64.specs.Elf.{elf}
use Rattle.command_parts.specs.Outside.{Outside, Stream, Fails, IsCounted, IsKept}
use Rattle.command_parts.specs.Outside.{IsMonotone}
use Rattle.command_parts.specs.Refusals.{status_of, line_of}
use Rattle.command_parts.specs.declared.image_cause.NoImage.{NoImage}
use Rattle.command_parts.specs.declared.image_cause.NoImage.TheVariants as unread
use Rattle.command_parts.specs.declared.refusal.Refusal.{Refusal}
use Rattle.command_parts.specs.declared.refusal.Refusal.TheVariants.{Read, Write, File}

-- it is one of these statuses
abbrev pub EndsIn : List ℕ → ℕ → Type 0
EndsIn [] status = ⊥
EndsIn (one ∷ others) status = (status ≡ one) ⊎ EndsIn others status

-- a line went out, or a part of it from the front where a write of it failed
abbrev pub Reports : List ℕ → Stream → Type 0
Reports line errs =
    Adds line errs.before errs.after
    ⊎ (Fails errs × ((n : ℕ) × Adds (take n line) errs.before errs.after))

-- the status of a command that was done or refused; a refusal was reported, and nothing else
abbrev pub EndsAs : {C T : Type 0} → (status : C → ℕ) → (line : C → List ℕ)
    → Result T (Refusal C) → Stream → ℕ → Type 0
EndsAs status line (Ok done) errs ended = (ended ≡ 0) × IsKept errs
EndsAs status line (Err refusal) errs ended =
    (ended ≡ status_of status refusal) × Reports (line_of line refusal) errs

-- What every command keeps on its way to being done or refused: the source until it is read, the
-- sink until it is written; and a count of faults but where its object's fault is the refusal.
pub record Keeps {C T : Type 0} (o : Outside) (result : Result T (Refusal C)) : Type 0 where
  pub source : result ≡ Err File → IsKept o.source
  pub sink : IfErr result (λ refusal. refusal ≢ Write → IsKept o.sink)
  pub files_count : result ≢ Err File → IsCounted o.files
  pub source_count : result ≢ Err Read → IsCounted o.source
  pub sink_count : result ≢ Err Write → IsCounted o.sink
  pub monotone : IsMonotone o

-- The same of a command that ended with a status. Its arguments had a form.
pub record Leaves (o : Outside) (status : ℕ) : Type 0 where
  pub formed : status ≢ 1
  pub source : status ≡ 6 → IsKept o.source
  pub sink : status ≢ 0 → status ≢ 5 → IsKept o.sink
  pub files_count : status ≢ 6 → IsCounted o.files
  pub source_count : status ≢ 4 → IsCounted o.source
  pub sink_count : status ≢ 5 → IsCounted o.sink
  pub monotone : IsMonotone o

-- why bytes are no image
abbrev pub RefusesBytes : List ℕ → NoImage → Type 0
RefusesBytes bytes (unread.Fault fault) = elf bytes ≡ Err fault.fault
RefusesBytes bytes unread.Memory = Unit {0}
