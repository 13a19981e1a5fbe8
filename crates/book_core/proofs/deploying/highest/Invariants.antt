use Rattle.std.proofs.Common.{◌≡◌, ◌≤◌, None, drop, length}
use Rattle.std.specs.Map.{keys_of}
use Rattle.journal_model.specs.State.{highest_kept}
use Rattle.book_core.proofs.deploying.highest.Given as goal

abbrev pub invariant-loop-left : goal.invariant-loop-left
invariant-loop-left g l = record {
  within : l.left ≤ length l.stack;
  none_above : highest_kept (keys_of l.kept.entries) (drop l.left l.stack) ≡ None;
}

abbrev pub decreases-loop-left : goal.decreases-loop-left
decreases-loop-left g l = l.left
