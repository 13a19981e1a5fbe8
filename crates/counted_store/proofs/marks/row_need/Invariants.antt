use Rattle.std.proofs.Common.{◌≡◌, ◌+◌, ◌-◌, ◌*◌, ◌≤◌}
use Rattle.space_api.specs.Frames.{frames_of}
use Rattle.space_laws.specs.Growth.{with_pages}
use Rattle.counted_space.specs.Marks.{is_marked}
use Rattle.counted_store.proofs.marks.row_need.Given as goal

abbrev pub invariant-loop-page : goal.invariant-loop-page
invariant-loop-page l = record {
  need : l.need + frames_of (is_marked l.pages)
      ≡ frames_of (with_pages l.first (l.page - l.first) (is_marked l.pages));
  few : l.need ≤ 3 * (l.page - l.first);
}
