use Rattle.plan_model.proofs.Distinct.{stack_distinct}
use Rattle.plan_model.proofs.Stacking.{stand_lower}
use Rattle.plan_model.proofs.laws.stacks_have_no_layer_twice.Goals as goal

pub returns : goal.returns
returns c = λ layers starts number are.
    stack_distinct layers number (stand_lower layers starts are)
