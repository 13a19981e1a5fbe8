use Rattle.plan_model.specs.Stacks.{AreStacks}
use Rattle.plan_model.proofs.stacks.stacks.Given as goal

abbrev pub invariant-loop-number : goal.invariant-loop-number
invariant-loop-number l = AreStacks l.layers l.number l.stacks.items
