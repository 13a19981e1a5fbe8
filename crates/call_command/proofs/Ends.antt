-- How `call` ends where it is refused.
use Rattle.std.proofs.Common.{◌≡◌, ℕ, ◌<◌, ◌≤◌, List, [], ◌∷◌, length, Option, Some, None, Result, Ok, Err, IfSome, IsOk, refl, ap, inl, inr, arith}
use Rattle.elf64.specs.Elf.{elf}
use Rattle.elf64.specs.declared.fault.ElfFault.{ElfFault}
use Rattle.elf64.specs.declared.fault.ImageFault.{ImageFault}
use Rattle.image_model.specs.declared.image.Image.{Image as Program}
use Rattle.machine_model.specs.Hypercall.{packet_limit}
use Rattle.call_command.specs.Call.{Answers, CallDoes, CallEnds, CallRefusal, HasFile, IsCut}
use Rattle.call_command.specs.Call.{Refuses, TellsFile, TellsNone, TellsNoImage}
use Rattle.command_parts.proofs.Endings.{some_status}
use Rattle.command_parts.specs.Ending.{EndsAs, EndsIn, Reports}
use Rattle.command_parts.specs.ImageLine.{fault_line, fault_status}
use Rattle.command_parts.specs.Outside.{Contents, Outside, Seen, Stream, Fails, IsKept}
use Rattle.command_parts.specs.Outside.{no_sink, outside, reporting}
use Rattle.command_parts.specs.Refusals.{IsOwnStatus, line_of, status_of}
use Rattle.command_parts.specs.declared.refusal.Refusal.{Refusal}
use Rattle.command_parts.specs.declared.refusal.Refusal.TheVariants.{Own, Size, Read, Write}
use Rattle.command_parts.specs.declared.refusal.Refusal.TheVariants.{File, Memory}

-- the status of a refusal of `call`
abbrev call_status : CallRefusal → ℕ
call_status refusal = status_of fault_status refusal

pub own_is : (fault : ImageFault) → IsOwnStatus (fault_status fault)
own_is fault = (omega arith, inl (omega arith))

-- ---- what files and source tell

-- what holds of the file's bytes holds of those that are told
of_bytes : (files : Contents) (name bytes : List ℕ) (P : List ℕ → Type 0) → TellsFile files name bytes → HasFile files name P → P bytes
of_bytes None name bytes P tells has = absurd tells
of_bytes (Some file_of) name bytes P tells has = rw tells at has

-- the file's bytes are those that are told
pub same_bytes : (files : Contents) (name bytes other : List ℕ) → TellsFile files name bytes → IfSome files (λ file_of. file_of name ≡ Some other) → bytes ≡ other
same_bytes None name bytes other tells is = absurd tells
same_bytes (Some file_of) name bytes other tells is = cc

-- a file that isn't there has nothing
none_has : (files : Contents) (name : List ℕ) (P : List ℕ → Type 0) → TellsNone files name → HasFile files name P → ⊥
none_has None name P tells has = absurd tells
none_has (Some file_of) name P tells has = rw tells at has

pub none_is : (files : Contents) (name bytes : List ℕ) → TellsNone files name → IfSome files (λ file_of. file_of name ≡ Some bytes) → ⊥
none_is None name bytes tells is = absurd tells
none_is (Some file_of) name bytes tells is = cc

not_ok : (bytes : List ℕ) (fault : ElfFault) → elf bytes ≡ Err fault → IsOk (elf bytes) → ⊥
not_ok bytes fault e ok = let is_err = rw e at ok in cc

pub not_both : (a b : List ℕ) (fault : ElfFault) (program : Program) → a ≡ b → elf a ≡ Err fault → elf b ≡ Ok program → ⊥
not_both a b fault program same e f = let g : elf a ≡ elf b = ap elf same in cc

-- ---- one refusal

module _ (o : Outside) (name : List ℕ) where
  missing_ends : (refusal : CallRefusal) → Refuses o name refusal → TellsNone o.files.before name → EndsIn (6 ∷ 7 ∷ []) (call_status refusal)
  missing_ends (Own fault) h none = absurd (none_has o.files.before name _ none h.0)
  missing_ends Size h none = absurd (none_has o.files.before name _ none h.0)
  missing_ends Read h none = absurd (none_has o.files.before name _ none h.0)
  missing_ends Write h none = absurd (none_is o.files.before name h.line_is.bytes none h.line_is.file_is)
  missing_ends File h none = inl refl
  missing_ends Memory h none = inr (inl refl)

  image_ends : (refusal : CallRefusal) → Refuses o name refusal → (bytes : List ℕ) (fault : ElfFault) → TellsFile o.files.before name bytes → elf bytes ≡ Err fault → EndsIn (2 ∷ 6 ∷ 7 ∷ []) (call_status refusal)
  image_ends (Own other) h bytes fault tells e = inl refl
  image_ends Size h bytes fault tells e = absurd (not_ok bytes fault e (of_bytes o.files.before name bytes _ tells h.0))
  image_ends Read h bytes fault tells e = absurd (not_ok bytes fault e (of_bytes o.files.before name bytes _ tells h.0))
  image_ends Write h bytes fault tells e =
      absurd (not_both bytes h.line_is.bytes fault h.line_is.program (same_bytes o.files.before name bytes h.line_is.bytes tells h.line_is.file_is) e h.line_is.image_is)
  image_ends File h bytes fault tells e = inr (inl refl)
  image_ends Memory h bytes fault tells e = inr (inr (inl refl))

  not_image : (fault : ElfFault) (bytes : List ℕ) (program : Program) → HasFile o.files.before name (λ found. elf found ≡ Err fault) → TellsFile o.files.before name bytes → elf bytes ≡ Ok program → ⊥
  not_image fault bytes program h tells e = not_both bytes bytes fault program refl (of_bytes o.files.before name bytes _ tells h) e

  size_ends : (refusal : CallRefusal) → Refuses o name refusal → (bytes packet : List ℕ) (program : Program) → TellsFile o.files.before name bytes → elf bytes ≡ Ok program → o.source.before ≡ Some packet → packet_limit < length packet → EndsIn (3 ∷ 4 ∷ 6 ∷ 7 ∷ []) (call_status refusal)
  size_ends (Own fault) h bytes packet program tells e left long = absurd (not_image fault.fault bytes program h.0 tells e)
  size_ends Size h bytes packet program tells e left long = inl refl
  size_ends Read h bytes packet program tells e left long = inr (inl refl)
  size_ends Write h bytes packet program tells e left long =
      let same : packet ≡ h.line_is.packet = rw left at h.line_is.packet_is in
      let size : length packet ≡ length h.line_is.packet = ap length same in
      let short : length h.line_is.packet ≤ packet_limit = h.line_is.short in
      absurd (omega arith)
  size_ends File h bytes packet program tells e left long = inr (inr (inl refl))
  size_ends Memory h bytes packet program tells e left long = inr (inr (inr (inl refl)))

  complete_ends : (refusal : CallRefusal) → Refuses o name refusal → (bytes packet : List ℕ) (program : Program) → TellsFile o.files.before name bytes → elf bytes ≡ Ok program → o.source.before ≡ Some packet → length packet ≤ packet_limit → (Fails o.files → ⊥) → (Fails o.source → ⊥) → (Fails o.sink → ⊥) → EndsIn (0 ∷ 7 ∷ []) (call_status refusal)
  complete_ends (Own fault) h bytes packet program tells e left short f s k = absurd (not_image fault.fault bytes program h.0 tells e)
  complete_ends Size h bytes packet program tells e left short f s k =
      let long = (rw left at h.1).0 in
      absurd (omega (arith, long))
  complete_ends Read h bytes packet program tells e left short f s k = absurd (s h.1)
  complete_ends Write h bytes packet program tells e left short f s k = absurd (k h.failed)
  complete_ends File h bytes packet program tells e left short f s k = absurd (f h)
  complete_ends Memory h bytes packet program tells e left short f s k = inr (inl refl)

  -- a refusal that has its cause and was reported
  refused_ends : (refusal : CallRefusal) → Refuses o name refusal
      → (TellsNoImage o.files.before name → IsKept o.source)
      → Reports (line_of fault_line refusal) o.errs → CallEnds o name (call_status refusal)
  refused_ends refusal h untouched reported = record {
    done = λ e.
        let some = some_status fault_status own_is refusal in
        absurd (omega (arith, e, some));
    refused = inr (refusal, refl, h, reported);
    untouched = untouched;
    missing = missing_ends refusal h;
    image = image_ends refusal h;
    size = size_ends refusal h;
    complete = complete_ends refusal h;
  }

  -- an answer ends with 0
  done_ends : Answers o name → (TellsNoImage o.files.before name → IsKept o.source)
      → IsKept o.errs → CallEnds o name 0
  done_ends h untouched kept = record {
    done = λ e. (h, kept);
    refused = inl refl;
    untouched = untouched;
    missing = λ none. absurd (none_is o.files.before name h.line_is.bytes none h.line_is.file_is);
    image = λ bytes fault tells e. absurd (not_both bytes h.line_is.bytes fault h.line_is.program (same_bytes o.files.before name bytes h.line_is.bytes tells h.line_is.file_is) e h.line_is.image_is);
    size = λ bytes packet program tells e left long.
        let same : packet ≡ h.line_is.packet = rw left at h.line_is.packet_is in
        let size : length packet ≡ length h.line_is.packet = ap length same in
        let short : length h.line_is.packet ≤ packet_limit = h.line_is.short in
        absurd (omega arith);
    complete = λ bytes packet program tells e left short f s k. inl refl;
  }

-- ---- what is reported changes nothing of it

answers_too : (o : Outside) (errs : Stream) (name : List ℕ) → Answers o name
    → Answers (reporting o errs) name
answers_too o errs name h = record {
  line = h.line;
  line_is = h.line_is;
  written = h.written;
  read = h.read;
}

refuses_too : (o : Outside) (errs : Stream) (name : List ℕ) (refusal : CallRefusal)
    → Refuses o name refusal → Refuses (reporting o errs) name refusal
refuses_too o errs name (Own fault) h = h
refuses_too o errs name Size h = h
refuses_too o errs name Read h = h
refuses_too o errs name Write h = record {
  line = h.line;
  line_is = h.line_is;
  failed = h.failed;
  part = h.part;
  within = h.within;
  written = h.written;
  read = h.read;
}
refuses_too o errs name File h = h
refuses_too o errs name Memory h = h

-- a refusal before anything was written is one over any sink
pub over_sink : (files : Seen Contents) (source sink : Stream) (name : List ℕ)
    (refusal : CallRefusal) → Refuses (outside files source no_sink no_sink) name refusal
    → Refuses (outside files source sink no_sink) name refusal
over_sink files source sink name (Own fault) h = h
over_sink files source sink name Size h = h
over_sink files source sink name Read h = h
over_sink files source sink name Write h = let failed = h.failed in absurd (omega (arith, failed))
over_sink files source sink name File h = h
over_sink files source sink name Memory h = h

-- how it ends: it was done or refused, and a refusal reported
pub ends : {T : Type 0} (o : Outside) (errs : Stream) (name : List ℕ)
    (result : Result T CallRefusal) (status : ℕ) → CallDoes o name result
    → (TellsNoImage o.files.before name → IsKept o.source)
    → EndsAs fault_status fault_line result errs status → CallEnds (reporting o errs) name status
ends o errs name (Ok done) status h untouched end =
    rw end.0 (done_ends (reporting o errs) name (answers_too o errs name h) untouched end.1)
ends o errs name (Err refusal) status h untouched end =
    rw end.0
    (refused_ends (reporting o errs) name refusal (refuses_too o errs name refusal h)
    untouched end.1)
