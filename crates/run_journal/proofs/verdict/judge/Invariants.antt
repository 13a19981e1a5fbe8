use Rattle.std.proofs.Common.{◌≡◌, drop}
use Rattle.journal_model.specs.Legal.{judged, judged_from}
use Rattle.run_journal.proofs.verdict.judge.Given as goal

-- what comes of all events is what comes of those that are left
abbrev pub invariant-loop-at : goal.invariant-loop-at
invariant-loop-at l = judged l.sizes l.events
    ≡ judged_from l.journal.sizes l.journal.state l.at (drop l.at l.events)
