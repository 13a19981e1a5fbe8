-- `call IMAGE`: the image of the file IMAGE runs once, with the source's bytes as one packet.
use Rattle.std.specs.Prelude.{◌≡◌, ℕ, ◌+◌, ◌<◌, ◌≤◌, ◌⊎◌, List, [], ◌∷◌, length, take, Option}
use Rattle.std.specs.Prelude.{Some, None, IfSome, IsSomeAnd, Result, Ok, Err, IsOk, IsErr}
use Rattle.edge_streams.specs.Content.{Adds}
use Rattle.elf64.specs.Elf.{elf}
use Rattle.elf64.specs.declared.fault.ElfFault.{ElfFault}
use Rattle.elf64.specs.declared.fault.ImageFault.{ImageFault}
use Rattle.image_model.specs.StartOf.{start_of}
use Rattle.image_model.specs.declared.image.Image.{Image as Program}
use Rattle.machine_model.specs.Hypercall.{packet_limit}
use Rattle.machine_model.specs.Loaded.{loaded}
use Rattle.machine_model.specs.Run.{Limits, give, Replies}
use Rattle.machine_model.specs.declared.stop.Stop.{Stop}
use Rattle.command_parts.specs.Ending.{EndsIn, Reports}
use Rattle.command_parts.specs.ImageLine.{fault_status, fault_line}
use Rattle.command_parts.specs.Outside.{Outside, Contents, Fails, IsKept}
use Rattle.command_parts.specs.Refusals.{status_of, line_of}
use Rattle.command_parts.specs.Sources.{IsRead, IsTaken, IsTooLong}
use Rattle.call_command.specs.ReplyLine.{reply_line}
use Rattle.command_parts.specs.declared.refusal.Refusal.{Refusal}
use Rattle.command_parts.specs.declared.refusal.Refusal.TheVariants.{Own, Size, Read, Write}
use Rattle.command_parts.specs.declared.refusal.Refusal.TheVariants.{File, Memory}

-- ---- what answers it

-- an image runs with a stack of so many bytes, no trigger, and a budget of instructions
abbrev pub call_stack : ℕ
call_stack = 65536

abbrev pub call_limits : Limits
call_limits = record { trigger = None; budget = 100000000 }

-- the line of an image's run on one packet, where the clock shows 0
pub record IsRunLine (program : Program) (packet line : List ℕ) : Type 0 where
  pub stop : Stop
  pub number : ℕ
  pub packets : List (List ℕ)
  pub console : List ℕ
  pub run : Replies 0 call_limits (give (loaded (start_of program call_stack)) (packet ∷ []))
      stop number packets console
  pub line_is : line ≡ reply_line stop number packets console

-- the line is that of the run of the file's image on the source's bytes
pub record IsCallLine (files : Contents) (source : Option (List ℕ))
    (name line : List ℕ) : Type 0 where
  pub bytes : List ℕ
  pub program : Program
  pub packet : List ℕ
  pub file_is : IfSome files (λ file_of. file_of name ≡ Some bytes)
  pub image_is : elf bytes ≡ Ok program
  pub packet_is : IfSome source (λ left. left ≡ packet)
  pub short : length packet ≤ packet_limit
  pub run : IsRunLine program packet line

-- the line was written
pub record Answers (o : Outside) (name : List ℕ) : Type 0 where
  pub line : List ℕ
  pub line_is : IsCallLine o.files.before o.source.before name line
  pub written : Adds line o.sink.before o.sink.after
  pub read : IsRead o.source

-- ---- what refuses it

-- why `call` is refused: its own cause is a fault of the image
abbrev pub CallRefusal : Type 0
CallRefusal = Refusal ImageFault

-- the file of this name is there, and its bytes are so
abbrev pub HasFile : Contents → (name : List ℕ) → (List ℕ → Type 0) → Type 0
HasFile files name P = IfSome files (λ file_of. IsSomeAnd (file_of name) P)

-- the file of this name is an image
abbrev pub HasImage : Contents → (name : List ℕ) → Type 0
HasImage files name = HasFile files name (λ bytes. IsOk (elf bytes))

-- the file of this name is no image, for this fault
abbrev pub HasFault : Contents → (name : List ℕ) → ElfFault → Type 0
HasFault files name fault = HasFile files name (λ bytes. elf bytes ≡ Err fault)

-- a write failed after a part of the line from the front
pub record IsCut (o : Outside) (name : List ℕ) : Type 0 where
  pub line : List ℕ
  pub line_is : IsCallLine o.files.before o.source.before name line
  pub failed : Fails o.sink
  pub part : ℕ
  pub within : part < length line
  pub written : Adds (take part line) o.sink.before o.sink.after
  pub read : IsRead o.source

-- Why it is refused. What is looked at before was right: first the file, then its image, the
-- source and its length. Want of memory has no cause that could be named.
abbrev pub Refuses : Outside → (name : List ℕ) → CallRefusal → Type 0
Refuses o name (Own fault) = HasFault o.files.before name fault.fault × IsKept o.source
Refuses o name Size = HasImage o.files.before name × IsTooLong packet_limit o.source
Refuses o name Read =
    HasImage o.files.before name × Fails o.source × IsTaken packet_limit o.source
Refuses o name Write = IsCut o name
Refuses o name File = Fails o.files
Refuses o name Memory = IsTaken (packet_limit + 1) o.source

-- why an image isn't had from a file
abbrev pub RefusesProgram : Contents → (name : List ℕ) → (fails : Type 0) → CallRefusal → Type 0
RefusesProgram files name fails (Own fault) = HasFault files name fault.fault
RefusesProgram files name fails Size = ⊥
RefusesProgram files name fails Read = ⊥
RefusesProgram files name fails Write = ⊥
RefusesProgram files name fails File = fails
RefusesProgram files name fails Memory = Unit {0}

-- ---- how it ends

-- it was answered, or refused for its cause
abbrev pub CallDoes : {T : Type 0} → Outside → (name : List ℕ) → Result T CallRefusal → Type 0
CallDoes o name (Ok done) = Answers o name
CallDoes o name (Err refusal) = Refuses o name refusal

-- the files tell that the file of this name has these bytes, and that there is none
abbrev pub TellsFile : Contents → (name bytes : List ℕ) → Type 0
TellsFile files name bytes = IsSomeAnd files (λ file_of. file_of name ≡ Some bytes)

abbrev pub TellsNone : Contents → (name : List ℕ) → Type 0
TellsNone files name = IsSomeAnd files (λ file_of. file_of name ≡ None)

-- there is no such file, or its bytes are no image
abbrev pub TellsNoImage : Contents → (name : List ℕ) → Type 0
TellsNoImage files name =
    IsSomeAnd files (λ file_of. IfSome (file_of name) (λ bytes. IsErr (elf bytes)))

pub record CallEnds (o : Outside) (name : List ℕ) (status : ℕ) : Type 0 where
  -- at 0 the line was written, and nothing was reported
  pub done : status ≡ 0 → Answers o name × IsKept o.errs
  -- at another status there is a refusal of that status; it has its cause and was reported
  pub refused : (status ≡ 0) ⊎ ((refusal : CallRefusal)
      × (status ≡ status_of fault_status refusal)
      × Refuses o name refusal × Reports (line_of fault_line refusal) o.errs)
  -- without an image the source isn't touched, whatever the status
  pub untouched : TellsNoImage o.files.before name → IsKept o.source
  -- no file, a file that is no image, and a source that is too long end so
  pub missing : TellsNone o.files.before name → EndsIn (6 ∷ 7 ∷ []) status
  pub image : (bytes : List ℕ) (fault : ElfFault) → TellsFile o.files.before name bytes
      → elf bytes ≡ Err fault → EndsIn (2 ∷ 6 ∷ 7 ∷ []) status
  pub size : (bytes packet : List ℕ) (program : Program) → TellsFile o.files.before name bytes
      → elf bytes ≡ Ok program → o.source.before ≡ Some packet → packet_limit < length packet
      → EndsIn (3 ∷ 4 ∷ 6 ∷ 7 ∷ []) status
  -- where all is right and no call failed, only memory can be wanting
  pub complete : (bytes packet : List ℕ) (program : Program)
      → TellsFile o.files.before name bytes → elf bytes ≡ Ok program
      → o.source.before ≡ Some packet → length packet ≤ packet_limit → (Fails o.files → ⊥)
      → (Fails o.source → ⊥) → (Fails o.sink → ⊥) → EndsIn (0 ∷ 7 ∷ []) status
