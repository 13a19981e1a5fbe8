-- Whoever sends the lines of what is left has sent them all.
use Rattle.std.proofs.Common.{◌+◌, ◌-◌, ◌≤◌, length, drop}
use Rattle.asm_commands.specs.Listing.{bytes_lines}
use Rattle.output_buffer.specs.Sent.{Way, Sends, way}
use Rattle.asm_commands.proofs.lines.push_bytes.Given as goal

abbrev pub invariant-words : goal.invariant-words
invariant-words g l = record {
  within : l.done ≤ length l.fn.bytes;
  lines : (end : Way)
      → Sends (bytes_lines (l.fn.at + l.done) (drop l.done l.fn.bytes))
      (way g.K.Sink.contents g.K.Sink.faults l.sink l.buffer) end
      → Sends (bytes_lines l.fn.at l.fn.bytes)
      (way g.K.Sink.contents g.K.Sink.faults l.initial.sink l.initial.buffer) end;
}

abbrev pub decreases-words : goal.decreases-words
decreases-words g l = length l.fn.bytes - l.done
