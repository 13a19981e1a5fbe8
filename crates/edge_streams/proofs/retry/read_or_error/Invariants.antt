-- What was interrupted took nothing, and the buffer keeps its length.
use Rattle.std.proofs.Common.{◌≡◌, length}
use Rattle.edge_streams.specs.Content.{Keeps}
use Rattle.edge_streams.proofs.retry.read_or_error.Given as goal

abbrev pub invariant-tries : goal.invariant-tries
invariant-tries g l = record {
  kept : Keeps (g.R.Read.remaining l.initial.reader) (g.R.Read.remaining l.reader);
  length_kept : length l.buf ≡ length l.initial.buf;
}
