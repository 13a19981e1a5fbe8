use Rattle.std.proofs.Common.{◌≡◌, take}
use Rattle.plan_model.specs.Outline.{names_of}
use Rattle.plan_model.proofs.stacks.names.Given as goal

abbrev pub invariant-loop-function : goal.invariant-loop-function
invariant-loop-function l = l.names.items ≡ names_of (take l.function-index l.functions)
