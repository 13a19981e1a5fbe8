use Rattle.std.proofs.Common.{◌≡◌, take}
use Rattle.hyper_calls.proofs.ports.copy_packets.Given as goal

-- those before are copied
abbrev pub invariant-loop-packet : goal.invariant-loop-packet
invariant-loop-packet l = l.to.items ≡ take l.packet-index l.packets
