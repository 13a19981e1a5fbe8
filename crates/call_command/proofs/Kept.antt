-- What `call` keeps that is refused before it writes, and why it is.
use Rattle.std.proofs.Common.{◌≡◌, ◌≢◌, ℕ, ◌+◌, ◌≤◌, List, Option, Some, None, Result, Ok, Err}
use Rattle.std.proofs.Common.{IfErr, IfOk, IfSome, IsErr, refl, sym, ◌∙◌, arith}
use Rattle.std.specs.Global.{Global}
use Rattle.std.specs.Prelude.{String, string_bytes}
use Rattle.edge_streams.specs.Content.{TakesAtMost}
use Rattle.elf64.specs.Elf.{elf}
use Rattle.image_model.specs.declared.image.Image.{Image as Program}
use Rattle.machine_model.specs.Hypercall.{packet_limit}
use Rattle.call_command.specs.Call.{CallRefusal, HasImage, IsCallLine, IsRunLine}
use Rattle.call_command.specs.Call.{Refuses, RefusesProgram, TellsNoImage}
use Rattle.command_parts.specs.Ending.{Keeps}
use Rattle.command_parts.specs.Outside.{Contents, Seen, Stream, Fails, IsCounted, IsKept}
use Rattle.command_parts.specs.Outside.{no_sink, outside, seen}
use Rattle.command_parts.specs.Sources.{IsInput, RefusesSource}
use Rattle.command_parts.specs.declared.refusal.Refusal.{Refusal}
use Rattle.command_parts.specs.declared.refusal.Refusal.TheVariants.{Own, Size, Read, Write}
use Rattle.command_parts.specs.declared.refusal.Refusal.TheVariants.{File, Memory}

-- nothing was taken
untouched_taken : (before after : Option (List ℕ)) → after ≡ before
    → TakesAtMost (packet_limit + 1) before after
untouched_taken None after kept = tt
untouched_taken (Some left) after kept = (0, omega arith, kept)

-- ---- what is kept

-- no image was had of the file
pub of_program : {P T : Type 0} (result : Result T CallRefusal) (had : Result P CallRefusal)
    (refusal : CallRefusal) (files : Seen Contents) (left : Option (List ℕ)) (faults : ℕ)
    → result ≡ Err refusal → had ≡ Err refusal → (had ≢ Err File → IsCounted files)
    → files.faults ≤ files.faults_after
    → Keeps (outside files (seen left left faults faults) no_sink no_sink) result
of_program result had refusal files left faults is was counted rises = rw is record {
  source = λ file. refl;
  sink = λ other. refl;
  files_count = λ other. counted (λ same. other cc);
  source_count = λ other. refl;
  sink_count = λ other. refl;
  monotone = record {
    files = rises;
    source = omega arith;
    sink = omega arith;
    errs = omega arith;
  };
}

-- a source isn't refused for a file
not_file : (source : Stream) (refusal : CallRefusal) → RefusesSource packet_limit source refusal
    → refusal ≡ File → ⊥
not_file source refusal h e = rw e at h

-- no packet was had of the source
pub of_packet : {P T : Type 0} (result : Result T CallRefusal) (had : Result P CallRefusal)
    (refusal : CallRefusal) (files : Seen Contents) (source : Stream)
    → result ≡ Err refusal → had ≡ Err refusal → IsCounted files
    → files.faults ≤ files.faults_after → RefusesSource packet_limit source refusal
    → (had ≢ Err Read → IsCounted source) → source.faults ≤ source.faults_after
    → Keeps (outside files source no_sink no_sink) result
of_packet result had refusal files source is was files_counted files_rises refused counted rises =
    rw is record {
      source = λ file. absurd (not_file source refusal refused cc);
      sink = λ other. refl;
      files_count = λ other. files_counted;
      source_count = λ other. counted (λ same. other cc);
      sink_count = λ other. refl;
      monotone = record {
        files = files_rises;
        source = rises;
        sink = omega arith;
        errs = omega arith;
      };
    }

-- the packet was had, and memory ran out or didn't
pub of_line : {T : Type 0} (result : Result T CallRefusal) (files : Seen Contents)
    (source : Stream) → IfErr result (λ refusal. refusal ≡ Memory) → IsCounted files
    → files.faults ≤ files.faults_after → IsCounted source → source.faults ≤ source.faults_after
    → Keeps (outside files source no_sink no_sink) result
of_line (Ok line) files source memory files_counted files_rises counted rises = record {
  source = λ file. absurd cc;
  sink = tt;
  files_count = λ other. files_counted;
  source_count = λ other. counted;
  sink_count = λ other. refl;
  monotone = record {
    files = files_rises;
    source = rises;
    sink = omega arith;
    errs = omega arith;
  };
}
of_line (Err refusal) files source memory files_counted files_rises counted rises = record {
  source = λ file. let same : refusal ≡ File = cc in let m = sym memory ∙ same in absurd cc;
  sink = λ other. refl;
  files_count = λ other. files_counted;
  source_count = λ other. counted;
  sink_count = λ other. refl;
  monotone = record {
    files = files_rises;
    source = rises;
    sink = omega arith;
    errs = omega arith;
  };
}

-- ---- why an image or a packet is refused

-- the source wasn't touched
pub refused_program : (files : Seen Contents) (source : Stream) (name : List ℕ) → IsKept source
    → (refusal : CallRefusal) → RefusesProgram files.before name (Fails files) refusal
    → Refuses (outside files source no_sink no_sink) name refusal
refused_program files source name kept (Own fault) h = (h, kept)
refused_program files source name kept Size h = absurd h
refused_program files source name kept Read h = absurd h
refused_program files source name kept Write h = absurd h
refused_program files source name kept File h = h
refused_program files source name kept Memory h = untouched_taken source.before source.after kept

has_image : (files : Contents) (name bytes : List ℕ) (program : Program) → elf bytes ≡ Ok program
    → IfSome files (λ file_of. file_of name ≡ Some bytes) → HasImage files name
has_image None name bytes program e is = tt
has_image (Some file_of) name bytes program e is = rw (is, e) refl

-- behind an image
pub refused_packet : (files : Seen Contents) (source : Stream) (name bytes : List ℕ)
    (program : Program) → elf bytes ≡ Ok program
    → IfSome files.before (λ file_of. file_of name ≡ Some bytes) → (refusal : CallRefusal)
    → RefusesSource packet_limit source refusal
    → Refuses (outside files source no_sink no_sink) name refusal
refused_packet files source name bytes program e is (Own fault) h = absurd h
refused_packet files source name bytes program e is Size h =
    (has_image files.before name bytes program e is, h)
refused_packet files source name bytes program e is Read h =
    (has_image files.before name bytes program e is, h.0, h.1)
refused_packet files source name bytes program e is Write h = absurd h
refused_packet files source name bytes program e is File h = absurd h
refused_packet files source name bytes program e is Memory h = h

-- a file whose image was had isn't told to be none
pub not_told : (files : Contents) (name bytes : List ℕ) (program : Program)
    → elf bytes ≡ Ok program → IfSome files (λ file_of. file_of name ≡ Some bytes)
    → TellsNoImage files name → ⊥
not_told None name bytes program e is none = none
not_told (Some file_of) name bytes program e is none =
    let err : IsErr (elf bytes) = rw is at none in
    let ok = rw e at err in
    cc

-- ---- what answers it

-- the line of the run of the file's image on the source's bytes
pub call_line : (result : Result (String Global) CallRefusal) (files : Contents) (source : Stream)
    (name bytes : List ℕ) (program : Program) (packet : List ℕ) → elf bytes ≡ Ok program
    → IfSome files (λ file_of. file_of name ≡ Some bytes) → IsInput packet_limit source packet
    → IfOk result (λ line. IsRunLine program packet (string_bytes line))
    → IfOk result (λ line. IsCallLine files source.before name (string_bytes line))
call_line (Ok line) files source name bytes program packet e is input run = record {
  bytes = bytes;
  program = program;
  packet = packet;
  file_is = is;
  image_is = e;
  packet_is = input.bytes_are;
  short = input.within;
  run = run;
}
call_line (Err refusal) files source name bytes program packet e is input run = tt
