-- What a conversion does that is done, or that is refused, and what it keeps.
use Rattle.std.proofs.Common.{◌≡◌, ◌≢◌, ℕ, ◌<◌, ◌≤◌, List, length, take, Option, Result, Ok, Err}
use Rattle.std.proofs.Common.{IfErr, OnOk, refl, arith}
use Rattle.asm_commands.specs.Causes.{AsmRefusal}
use Rattle.asm_commands.specs.Conversion.{Makes, ConversionDoes, CouldNot, Refuses, Writes}
use Rattle.asm_commands.specs.Conversion.{WritesNot, source_limit}
use Rattle.command_parts.proofs.Inputs.{input_taken}
use Rattle.command_parts.specs.Ending.{Keeps}
use Rattle.command_parts.specs.Outside.{Contents, Stream, IsCounted, IsKept}
use Rattle.command_parts.specs.Outside.{no_sink, outside, seen}
use Rattle.command_parts.specs.Sources.{IsInput, RefusesSource}
use Rattle.command_parts.specs.declared.refusal.Refusal.{Refusal}
use Rattle.command_parts.specs.declared.refusal.Refusal.TheVariants.{Own, Size, Read, Write}
use Rattle.command_parts.specs.declared.refusal.Refusal.TheVariants.{File, Memory}
use Rattle.edge_streams.specs.Content.{Adds}

module _ (makes : Makes) (source : Stream) where
  -- the source's bytes weren't had
  pub of_source : (sink : Stream) (refusal : AsmRefusal)
      → RefusesSource source_limit source refusal → Refuses makes source sink refusal
  of_source sink (Own cause) h = absurd h
  of_source sink Size h = h
  of_source sink Read h = h
  of_source sink Write h = absurd h
  of_source sink File h = h
  of_source sink Memory h = h

  -- nothing could be made of them
  pub of_input : (sink : Stream) (input : List ℕ) → IsInput source_limit source input
      → (refusal : AsmRefusal) → CouldNot makes input refusal → Refuses makes source sink refusal
  of_input sink input is (Own cause) h = record { input = input; input_is = is; made_is = h }
  of_input sink input is Size h = absurd h
  of_input sink input is Read h = absurd h
  of_input sink input is Write h = absurd h
  of_input sink input is File h = h
  of_input sink input is Memory h = input_taken source_limit source input is

  -- what was made of them was written, or a write failed
  pub of_writing : {T : Type 0} (sink : Stream) (result : Result T AsmRefusal) (input : List ℕ)
      → IsInput source_limit source input → OnOk result (Writes makes input sink)
      → IfErr result (WritesNot makes input sink) → ConversionDoes makes source sink result
  of_writing sink (Ok done) input is written refused = record {
    output = written.output;
    made = record { input = input; input_is = is; made_is = written.made_is };
    written = written.written;
  }
  of_writing sink (Err (Own cause)) input is written refused =
      of_input sink input is (Own cause) refused
  of_writing sink (Err Size) input is written refused = absurd refused
  of_writing sink (Err Read) input is written refused = absurd refused
  of_writing sink (Err Write) input is written refused = record {
    output = refused.output;
    made = record { input = input; input_is = is; made_is = refused.made_is };
    failed = refused.failed;
    part = refused.part;
    within = refused.within;
    written = refused.written;
  }
  of_writing sink (Err File) input is written refused = absurd refused
  of_writing sink (Err Memory) input is written refused =
      of_input sink input is Memory refused

-- ---- what is kept

-- a source isn't refused for a file
source_not_file : (source : Stream) (refusal : AsmRefusal)
    → RefusesSource source_limit source refusal → refusal ≡ File → ⊥
source_not_file source refusal h e = rw e at h

-- the source's bytes weren't had, and nothing else was touched
pub keeps_source : {P T : Type 0} (result : Result T AsmRefusal) (had : Result P AsmRefusal)
    (refusal : AsmRefusal) (files : Contents) (n : ℕ) (source : Stream)
    (written : Option (List ℕ)) (m : ℕ) → result ≡ Err refusal → had ≡ Err refusal
    → RefusesSource source_limit source refusal → (had ≢ Err Read → IsCounted source)
    → source.faults ≤ source.faults_after
    → Keeps (outside (seen files files n n) source (seen written written m m) no_sink) result
keeps_source result had refusal files n source written m is was refused counted rises =
    rw is record {
      source = λ file. absurd (source_not_file source refusal refused cc);
      sink = λ other. refl;
      files_count = λ other. refl;
      source_count = λ other. counted (λ same. other cc);
      sink_count = λ other. refl;
      monotone = record {
        files = omega arith;
        source = rises;
        sink = omega arith;
        errs = omega arith;
      };
    }

-- what can't be written isn't refused for a file
written_not_file : {T : Type 0} (makes : Makes) (input : List ℕ) (sink : Stream)
    (result : Result T AsmRefusal) → IfErr result (WritesNot makes input sink)
    → result ≡ Err File → ⊥
written_not_file makes input sink result h e = rw e at h

-- all was read, and what was made of it was written or not
pub keeps_writing : {T : Type 0} (result : Result T AsmRefusal) (makes : Makes) (input : List ℕ)
    (files : Contents) (n : ℕ) (source sink : Stream) → IsCounted source
    → source.faults ≤ source.faults_after → IfErr result (WritesNot makes input sink)
    → IfErr result (λ refusal. refusal ≢ Write → IsKept sink)
    → (result ≢ Err Write → IsCounted sink) → sink.faults ≤ sink.faults_after
    → Keeps (outside (seen files files n n) source sink no_sink) result
keeps_writing result makes input files n source sink counted rises refused kept sink_counted
    sink_rises = record {
      source = λ file. absurd (written_not_file makes input sink result refused file);
      sink = kept;
      files_count = λ other. refl;
      source_count = λ other. counted;
      sink_count = sink_counted;
      monotone = record {
        files = omega arith;
        source = rises;
        sink = sink_rises;
        errs = omega arith;
      };
    }
