use Rattle.std.proofs.Common.{subst, sym}
use Rattle.deployer.specs.Grounds.{IsSizedBy}
use Rattle.plan_book.proofs.Stacked.{is_sized, same_sizes}
use Rattle.plan_book.proofs.sizing.sizes_of_plan.Goals as goal

pub returns-clause-sizes : goal.returns-clause-sizes
returns-clause-sizes c = same_sizes c.args.plan.now c.numbers-numbers.result.now c.from.result
    c.from-2.result c.args.requests c.in_ok-stacks.stacks.items c.numbers-numbers.ensures
    c.from.ensures c.from-2.ensures c.in_ok-stacks.ensures.stacks

pub returns-clause-sized : goal.returns-clause-sized
returns-clause-sized c = subst (IsSizedBy c.args.plan.now) (sym (same_sizes c.args.plan.now
    c.numbers-numbers.result.now c.from.result c.from-2.result c.args.requests
    c.in_ok-stacks.stacks.items c.numbers-numbers.ensures c.from.ensures c.from-2.ensures
    c.in_ok-stacks.ensures.stacks)) (is_sized c.args.plan.now c.args.requests)
