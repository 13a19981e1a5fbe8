use Rattle.std.proofs.Common.{◌≡◌}
use Rattle.plan_text.proofs.Started.{AreStarted}
use Rattle.plan_text.proofs.images.starts.Given as goal

abbrev pub invariant-names : goal.invariant-names
invariant-names g l =
    AreStarted (g.F.Files.contents l.fn.files) l.stack l.names l.name-index l.starts.items l.totals
    × (g.F.Files.contents l.files ≡ g.F.Files.contents l.fn.files)
    × (g.F.Files.faults l.files ≡ g.F.Files.faults l.fn.files)
