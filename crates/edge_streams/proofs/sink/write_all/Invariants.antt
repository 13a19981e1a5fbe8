-- The first bytes were added to what the sink held.
use Rattle.std.proofs.Common.{◌≡◌, ◌≤◌, ◌-◌, length, take}
use Rattle.edge_streams.specs.Content.{Adds}
use Rattle.edge_streams.proofs.sink.write_all.Given as goal

abbrev pub invariant-loop-written : goal.invariant-loop-written
invariant-loop-written g l = record {
  within : l.written ≤ length l.bytes;
  added : Adds (take l.written l.bytes)
      (g.K.Sink.contents l.initial.sink) (g.K.Sink.contents l.sink);
  counted : g.K.Sink.faults l.sink ≡ g.K.Sink.faults l.initial.sink;
}

-- how many bytes are left to write
abbrev pub decreases-loop-written : goal.decreases-loop-written
decreases-loop-written g l = length l.bytes - l.written
