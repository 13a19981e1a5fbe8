use Rattle.std.proofs.Common.{◌≡◌, None}
use Rattle.context_runs.specs.OfRequests.{IsRequestUnderWay}
use Rattle.context_runs_tests.proofs.running.finish_request.Given as goal

-- the request's run is under way, and nothing else changed
abbrev pub invariant-parts : goal.invariant-parts
invariant-parts g l = record {
  under_way : IsRequestUnderWay l.context (g.S.Space.flat l.context.space) l.bench.ports l.run;
  loose : g.S.Held.pin l.context.space ≡ None;
  same : l.context ≡ record (l.fn.context) {
    still = l.context.still;
    hart = l.context.hart;
    space = l.context.space;
  };
}
