use Rattle.std.proofs.Common.{◌≡◌, take}
use Rattle.journal_model.proofs.sizes.copied.Given as goal

-- the stacks so far were copied
abbrev pub invariant-loop-stack : goal.invariant-loop-stack
invariant-loop-stack l = l.copy.items ≡ take l.stack-index l.stacks
