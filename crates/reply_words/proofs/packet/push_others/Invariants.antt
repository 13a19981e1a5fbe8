use Rattle.std.proofs.Common.{true, take, ◌≤◌, vec_capacity}
use Rattle.std.specs.List.{flat_map}
use Rattle.reply_words.specs.Spelling.{packet_behind_slash}
use Rattle.reply_words.specs.Pushes.{Pushes}
use Rattle.reply_words.proofs.packet.push_others.Given as goal

-- those before are pushed
abbrev pub invariant-packets : goal.invariant-packets
invariant-packets l = Pushes true (flat_map packet_behind_slash (take l.packet-index l.packets))
    l.initial.out.items l.out.items
    × (vec_capacity l.initial.out ≤ vec_capacity l.out)
