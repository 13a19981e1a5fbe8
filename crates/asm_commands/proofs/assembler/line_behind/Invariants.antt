use Rattle.std.proofs.Common.{◌≡◌, ◌+◌, ◌≤◌, take}
use Rattle.asm_commands.specs.Asm.{line_feeds}
use Rattle.asm_commands.proofs.assembler.line_behind.Given as goal

abbrev pub invariant-bytes : goal.invariant-bytes
invariant-bytes l = record {
  counted : l.number ≡ line_feeds (take l.at l.fn.bytes) + 1;
  few : l.number ≤ l.at + 1;
}
