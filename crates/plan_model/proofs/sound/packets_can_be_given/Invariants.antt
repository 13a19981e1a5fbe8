use Rattle.std.specs.Prelude.{All}
use Rattle.std.specs.List.{AllWithin}
use Rattle.machine_model.specs.Valid.{IsPacket}
use Rattle.plan_model.specs.declared.layer.PlanLayer.{PlanLayer}
use Rattle.plan_model.proofs.sound.packets_can_be_given.Given as goal

abbrev pub invariant-layers : goal.invariant-layers
invariant-layers l =
    AllWithin (λ (layer : PlanLayer). All IsPacket layer.packets) l.layers 0 l.layer-index
