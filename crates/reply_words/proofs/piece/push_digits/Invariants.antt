use Rattle.std.proofs.Common.{true, take, ◌≤◌, vec_capacity}
use Rattle.std.specs.List.{flat_map}
use Rattle.reply_words.specs.Spelling.{byte_text}
use Rattle.reply_words.specs.Pushes.{Pushes}
use Rattle.reply_words.proofs.piece.push_digits.Given as goal

-- those before are pushed
abbrev pub invariant-bytes : goal.invariant-bytes
invariant-bytes l = Pushes true (flat_map byte_text (take l.byte-index l.bytes))
    l.initial.out.items l.out.items
    × (vec_capacity l.initial.out ≤ vec_capacity l.out)
