use Rattle.std.proofs.Common.{take}
use Rattle.std.specs.Fmt.{HasWritten, IsPlainFormatter}
use Rattle.plan_tables.specs.Shown.{shown_bytes}
use Rattle.plan_tables.proofs.shown.ShownBytesDisplay.fmt.Given as goal

abbrev pub invariant-bytes : goal.invariant-bytes
invariant-bytes g l =
    IsPlainFormatter l.initial.f → HasWritten g.W.Write.write_str_gives l.initial.f
    (shown_bytes (take l.byte-index l.byte-items)) l.f
