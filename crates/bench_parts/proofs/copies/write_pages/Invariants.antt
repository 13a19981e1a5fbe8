use Rattle.std.proofs.Common.{◌≡◌, true}
use Rattle.bench_parts.proofs.copies.write_pages.Given as goal

-- the space may run
abbrev pub invariant-pages : goal.invariant-pages
invariant-pages g l = g.S.Space.finished l.space ≡ true
