-- What the vector holds was read off the front of what the source had, one byte past the limit
-- at most.
use Rattle.std.proofs.Common.{◌≡◌, ◌≤◌, ◌+◌, ◌-◌, vec_len, length}
use Rattle.edge_streams.specs.Content.{Reads}
use Rattle.edge_streams.specs.declared.source.TheConstants.{CHUNK_BYTES}
use Rattle.edge_streams.proofs.source.read_all.Given as goal

abbrev pub invariant-loop-chunk : goal.invariant-loop-chunk
invariant-loop-chunk g l = record {
  within : vec_len l.bytes ≤ l.limit + 1;
  chunk_length : CHUNK_BYTES ≤ length l.chunk;
  read : Reads (length l.bytes.items) l.bytes.items
      (g.S.Source.remaining l.initial.source) (g.S.Source.remaining l.source);
  counted : g.S.Source.faults l.source ≡ g.S.Source.faults l.initial.source;
}

-- how many bytes it may still take
abbrev pub decreases-loop-chunk : goal.decreases-loop-chunk
decreases-loop-chunk g l = l.limit + 1 - vec_len l.bytes
