use Rattle.std.proofs.Common.{◌≡◌, take}
use Rattle.elf64.specs.Segments.{segments_of}
use Rattle.elf64.proofs.segments.segments.Given as goal

abbrev pub invariant-loop-load : goal.invariant-loop-load
invariant-loop-load l = l.found.items ≡ segments_of l.bytes (take l.load-index l.loads)
