use Rattle.std.proofs.Common.{◌≡◌, ◌≤◌, length, string_bytes, take}
use Rattle.call_command.proofs.Packets.{texts}
use Rattle.call_command.proofs.reply.packets_text.Given as goal

-- those before are joined
abbrev pub invariant-packets : goal.invariant-packets
invariant-packets l = record {
  some : 1 ≤ l.n;
  within : l.n ≤ length l.ports.traffic.sent;
  done : string_bytes l.text ≡ texts (take l.n l.ports.traffic.sent);
}
