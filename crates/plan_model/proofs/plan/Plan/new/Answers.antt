use Rattle.plan_model.proofs.Stacking.{stand_lower}
use Rattle.plan_model.proofs.plan.Plan.new.Goals as goal

pub stacks-requires-clause-lower : goal.stacks-requires-clause-lower
stacks-requires-clause-lower c =
    rw c.deref.ensures.value (stand_lower c.args.layers.items _ c.requires.layers)
