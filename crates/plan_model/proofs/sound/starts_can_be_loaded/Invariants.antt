use Rattle.std.specs.List.{AllWithin}
use Rattle.plan_model.specs.Outline.{IsStart}
use Rattle.plan_model.proofs.sound.starts_can_be_loaded.Given as goal

abbrev pub invariant-starts : goal.invariant-starts
invariant-starts l = AllWithin IsStart l.starts 0 l.start-index
