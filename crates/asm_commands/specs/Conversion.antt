-- A command that converts its source: the source is read to its end, and what is made of its bytes
-- is written, unless they are refused. `makes` says what comes of bytes: others, or a cause.
use Rattle.std.specs.Prelude.{◌≡◌, ℕ, ◌+◌, ◌<◌, ◌≤◌, ◌⊎◌, List, [], ◌∷◌, length, take}
use Rattle.std.specs.Prelude.{Some, Result, Ok, Err}
use Rattle.asm_commands.specs.Causes.{AsmRefusal, asm_line, asm_status}
use Rattle.asm_commands.specs.declared.cause.AsmCause.{AsmCause}
use Rattle.command_parts.specs.Ending.{EndsIn, Reports}
use Rattle.command_parts.specs.Outside.{Outside, Stream, Fails, IsKept}
use Rattle.command_parts.specs.Refusals.{status_of, line_of}
use Rattle.command_parts.specs.Sources.{IsInput, IsTaken, IsTooLong}
use Rattle.command_parts.specs.declared.refusal.Refusal.{Refusal}
use Rattle.command_parts.specs.declared.refusal.Refusal.TheVariants.{Own, Size, Read, Write}
use Rattle.command_parts.specs.declared.refusal.Refusal.TheVariants.{File, Memory}
use Rattle.edge_streams.specs.Content.{Adds}
use Rattle.image_model.specs.Files.{file_limit}

abbrev pub Makes : Type 1
Makes = List ℕ → Result (List ℕ) AsmCause → Type 0

-- a source is read to its end for at most so many bytes
abbrev pub source_limit : ℕ
source_limit = file_limit

-- this comes of the source's bytes
pub record IsMade (makes : Makes) (source : Stream) (made : Result (List ℕ) AsmCause)
    : Type 0 where
  pub input : List ℕ
  pub input_is : IsInput source_limit source input
  pub made_is : makes input made

-- what comes of the source's bytes was written
pub record Converts (makes : Makes) (source sink : Stream) : Type 0 where
  pub output : List ℕ
  pub made : IsMade makes source (Ok output)
  pub written : Adds output sink.before sink.after

-- a write failed after a part of the output from the front
pub record IsCut (makes : Makes) (source sink : Stream) : Type 0 where
  pub output : List ℕ
  pub made : IsMade makes source (Ok output)
  pub failed : Fails sink
  pub part : ℕ
  pub within : part < length output
  pub written : Adds (take part output) sink.before sink.after

-- Why it is refused. The source is read first, and its length looked at. Want of memory has no
-- cause that could be named.
abbrev pub Refuses : Makes → (source sink : Stream) → AsmRefusal → Type 0
Refuses makes source sink (Own cause) = IsMade makes source (Err cause)
Refuses makes source sink Size = IsTooLong source_limit source
Refuses makes source sink Read = Fails source × IsTaken source_limit source
Refuses makes source sink Write = IsCut makes source sink
Refuses makes source sink File = ⊥
Refuses makes source sink Memory = IsTaken (source_limit + 1) source

-- why nothing is made of bytes: the cause that comes of them, or want of memory
abbrev pub CouldNot : Makes → List ℕ → AsmRefusal → Type 0
CouldNot makes input (Own cause) = makes input (Err cause)
CouldNot makes input Size = ⊥
CouldNot makes input Read = ⊥
CouldNot makes input Write = ⊥
CouldNot makes input File = ⊥
CouldNot makes input Memory = Unit {0}

-- ---- how what is made of bytes is written

-- what comes of the bytes was written
pub record Writes (makes : Makes) (input : List ℕ) (sink : Stream) : Type 0 where
  pub output : List ℕ
  pub made_is : makes input (Ok output)
  pub written : Adds output sink.before sink.after

-- a write failed after a part of what comes of the bytes, from the front
pub record CutsOff (makes : Makes) (input : List ℕ) (sink : Stream) : Type 0 where
  pub output : List ℕ
  pub made_is : makes input (Ok output)
  pub failed : Fails sink
  pub part : ℕ
  pub within : part < length output
  pub written : Adds (take part output) sink.before sink.after

-- why it wasn't: nothing could be made of the bytes, or a write failed
abbrev pub WritesNot : Makes → List ℕ → Stream → AsmRefusal → Type 0
WritesNot makes input sink (Own cause) = CouldNot makes input (Own cause)
WritesNot makes input sink Size = CouldNot makes input Size
WritesNot makes input sink Read = CouldNot makes input Read
WritesNot makes input sink Write = CutsOff makes input sink
WritesNot makes input sink File = CouldNot makes input File
WritesNot makes input sink Memory = CouldNot makes input Memory

-- ---- how it ends

-- it was done, or refused for its cause
abbrev pub ConversionDoes : {T : Type 0} → Makes → (source sink : Stream) → Result T AsmRefusal
    → Type 0
ConversionDoes makes source sink (Ok done) = Converts makes source sink
ConversionDoes makes source sink (Err refusal) = Refuses makes source sink refusal

pub record ConversionEnds (makes : Makes) (o : Outside) (status : ℕ) : Type 0 where
  -- at 0 the output was written, and nothing was reported
  pub done : status ≡ 0 → Converts makes o.source o.sink × IsKept o.errs
  -- at another status there is a refusal of that status; it has its cause and was reported
  pub refused : (status ≡ 0) ⊎ ((refusal : AsmRefusal) × (status ≡ status_of asm_status refusal)
      × Refuses makes o.source o.sink refusal × Reports (line_of asm_line refusal) o.errs)
  -- a source that is too long, and bytes that are refused, end so
  pub size : (input : List ℕ) → o.source.before ≡ Some input → source_limit < length input
      → EndsIn (3 ∷ 4 ∷ 7 ∷ []) status
  pub faulty : (input : List ℕ) (cause : AsmCause) → o.source.before ≡ Some input
      → length input ≤ source_limit → makes input (Err cause)
      → EndsIn (asm_status cause ∷ 4 ∷ 7 ∷ []) status
  -- where all is right and no call failed, only memory can be wanting
  pub complete : (input output : List ℕ) → o.source.before ≡ Some input
      → length input ≤ source_limit → makes input (Ok output)
      → (Fails o.source → ⊥) → (Fails o.sink → ⊥) → EndsIn (0 ∷ 7 ∷ []) status
