-- What a command has outside: files, a source and two sinks, before it and after it.
use Rattle.std.specs.Prelude.{◌≡◌, ℕ, ◌≤◌, List, Option, None}
use Rattle.edge_streams.specs.Faults.{Rises}

-- what an object holds where it tells it, and how many of its calls failed
pub record Seen (A : Type 0) : Type 0 where
  pub before : A
  pub after : A
  pub faults : ℕ
  pub faults_after : ℕ

abbrev pub seen : {A : Type 0} → (before after : A) → (faults faults_after : ℕ) → Seen A
seen before after faults faults_after =
    record { before = before; after = after; faults = faults; faults_after = faults_after }

-- an object before and after, by what it tells and by its count
abbrev pub see : {T A : Type 0} → (told : T → A) → (count : T → ℕ) → (before after : T) → Seen A
see told count before after = seen (told before) (told after) (count before) (count after)

-- a call of it failed
abbrev pub Fails : {A : Type 0} → Seen A → Type 0
Fails s = Rises s.faults s.faults_after

-- no call of it failed
abbrev pub IsCounted : {A : Type 0} → Seen A → Type 0
IsCounted s = s.faults_after ≡ s.faults

-- it holds what it held
abbrev pub IsKept : {A : Type 0} → Seen A → Type 0
IsKept s = s.after ≡ s.before

-- what files tell: for each name the bytes of its file, or none where there is no such file
abbrev pub Contents : Type 0
Contents = Option (List ℕ → Option (List ℕ))

-- what a source has left, or a sink was given
abbrev pub Stream : Type 0
Stream = Seen (Option (List ℕ))

pub record Outside : Type 0 where
  pub files : Seen Contents
  -- what is left to read
  pub source : Stream
  -- all that was written
  pub sink : Stream
  -- all that was reported
  pub errs : Stream

abbrev pub outside : Seen Contents → (source sink errs : Stream) → Outside
outside files source sink errs =
    record { files = files; source = source; sink = sink; errs = errs }

-- the same, but for what was reported
abbrev pub reporting : Outside → Stream → Outside
reporting o errs = outside o.files o.source o.sink errs

-- a sink of which nothing is said
abbrev pub no_sink : Stream
no_sink = seen None None 0 0

-- nothing happened but what was reported
pub record IsUntouched (o : Outside) : Type 0 where
  pub source : IsKept o.source
  pub sink : IsKept o.sink
  pub files_count : IsCounted o.files
  pub source_count : IsCounted o.source
  pub sink_count : IsCounted o.sink
  pub rises : o.errs.faults ≤ o.errs.faults_after

-- no count falls
pub record IsMonotone (o : Outside) : Type 0 where
  pub files : o.files.faults ≤ o.files.faults_after
  pub source : o.source.faults ≤ o.source.faults_after
  pub sink : o.sink.faults ≤ o.sink.faults_after
  pub errs : o.errs.faults ≤ o.errs.faults_after

-- which objects they are, by the names of the references to them
pub record Names : Type 0 where
  pub files : ℕ
  pub source : ℕ
  pub sink : ℕ
  pub errs : ℕ
