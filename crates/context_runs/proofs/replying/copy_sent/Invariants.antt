use Rattle.std.proofs.Common.{◌≡◌, ◌≤◌, length, take}
use Rattle.context_runs.proofs.replying.copy_sent.Given as goal

-- those before are copied
abbrev pub invariant-packets : goal.invariant-packets
invariant-packets l = record {
  within : l.n ≤ length l.ports.traffic.sent;
  done : l.packets.items ≡ take l.n l.ports.traffic.sent;
}
