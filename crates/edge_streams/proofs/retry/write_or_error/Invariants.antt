-- What was interrupted added nothing.
use Rattle.edge_streams.specs.Content.{Keeps}
use Rattle.edge_streams.proofs.retry.write_or_error.Given as goal

abbrev pub invariant-tries : goal.invariant-tries
invariant-tries g l = Keeps (g.W.Write.contents l.initial.writer) (g.W.Write.contents l.writer)
