use Rattle.std.proofs.Common.{◌≡◌, ◌+◌, ◌≤◌, length}
use Rattle.asm_words.specs.Text.{lines}
use Rattle.asm_program.specs.Held.{program_of}
use Rattle.asm_program.specs.Reading.{reading, read_from}
use Rattle.asm_program.proofs.reading.read.Given as goal

abbrev pub invariant-lines : goal.invariant-lines
invariant-lines l = record {
  same : reading l.text ≡ read_from (program_of l.program) (l.count + 1) (lines l.rest);
  counted : l.count + length (lines l.rest) ≡ length (lines l.text);
  few : l.count + length l.rest ≤ length l.text;
}

abbrev pub decreases-lines : goal.decreases-lines
decreases-lines l = length l.rest
