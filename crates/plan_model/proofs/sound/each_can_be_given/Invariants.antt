use Rattle.std.specs.List.{AllWithin}
use Rattle.machine_model.specs.Valid.{IsPacket}
use Rattle.plan_model.proofs.sound.each_can_be_given.Given as goal

abbrev pub invariant-packets : goal.invariant-packets
invariant-packets l = AllWithin IsPacket l.packets 0 l.packet-index
