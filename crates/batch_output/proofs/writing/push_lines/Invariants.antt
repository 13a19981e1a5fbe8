-- The lines of those before are sent.
use Rattle.std.proofs.Common.{◌≤◌, take, vec_capacity}
use Rattle.output_buffer.specs.Sent.{Sends, way}
use Rattle.batch_output.specs.Lines.{lines_text}
use Rattle.batch_output.proofs.writing.push_lines.Given as goal

abbrev pub invariant-items : goal.invariant-items
invariant-items g l = record {
  sent : Sends (lines_text g.L.Line.spelled (take l.item-index l.items))
      (way g.K.Sink.contents g.K.Sink.faults l.initial.sink l.initial.buffer)
      (way g.K.Sink.contents g.K.Sink.faults l.sink l.buffer);
  grown : vec_capacity l.initial.line ≤ vec_capacity l.line;
}
