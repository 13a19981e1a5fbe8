use Rattle.std.proofs.Common.{subst, List, length, ◌<◌}
use Rattle.plan_model.specs.declared.function.PlanFunction.{PlanFunction}
use Rattle.plan_book.proofs.Stacked.{stacks_more, starts_more}
use Rattle.plan_book.proofs.sizing.stacks_of.Goals as goal

pub loop-function-preserved : goal.loop-function-preserved
loop-function-preserved c =
    let within = subst (λ (fs : List PlanFunction). c.loop-function.function < length fs)
    c.functions-function-end.ensures c.loop-function-test.true in
    record {
      stacks = stacks_more c.args.plan.now.layers c.args.plan.now.functions
          c.loop-function.function c.in_ok-stack.stack c.loop-function.stacks.items _ within
          c.in_ok-stack.ensures.stack c.loop-function.invariant.stacks c.in_ok-add.ensures;
      starts = starts_more c.in_ok-stack.stack c.loop-function.stacks.items _
          c.in_ok-stack.ensures.start c.loop-function.invariant.starts c.in_ok-add.ensures;
    }
