use Rattle.std.proofs.Common.{◌≡◌, map, take}
use Rattle.batch_model.specs.Setting.{stack_on}
use Rattle.plan_book.specs.Sized.{HaveStarts}
use Rattle.plan_book.proofs.sizing.stacks_of.Given as goal

abbrev pub invariant-loop-function : goal.invariant-loop-function
invariant-loop-function l = record {
  stacks : l.stacks.items ≡ map (stack_on l.plan.layers) (take l.function l.plan.functions);
  starts : HaveStarts l.stacks.items;
}
