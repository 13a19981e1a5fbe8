use Rattle.std.proofs.Common.{sym, ◌∙◌, arith}
use Rattle.machine_model.specs.Run.{By_trigger, By_budget}
use Rattle.machine_run.proofs.ends.end_before.Goals as goal

pub returns-then-is_at-clause-ends : goal.returns-then-is_at-clause-ends
returns-then-is_at-clause-ends c = λ clock flat traffic.
    By_trigger (sym (c.is_at.ensures flat traffic) ∙ c.if-is_at.true)

pub returns-then-part-clause-ends : goal.returns-then-part-clause-ends
returns-then-part-clause-ends c = λ clock flat traffic.
    By_budget (sym (c.is_at.ensures flat traffic) ∙ c.if-is_at.false) (omega arith)
