-- Those before fit.
use Rattle.std.proofs.Common.{◌≤◌, take, vec_capacity}
use Rattle.batch_output.specs.Lines.{AllFit}
use Rattle.batch_output.proofs.room.make_room_for.Given as goal

abbrev pub invariant-items : goal.invariant-items
invariant-items g l = record {
  fits : AllFit g.L.Line.spelled (vec_capacity l.line) (take l.item-index l.items);
  grown : vec_capacity l.initial.line ≤ vec_capacity l.line;
}
