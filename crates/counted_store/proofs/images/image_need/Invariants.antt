use Rattle.std.proofs.Common.{◌≡◌, ◌+◌, ◌*◌, ◌≤◌, map, take}
use Rattle.space_api.specs.Frames.{frames_of}
use Rattle.counted_space.specs.Marks.{is_marked}
use Rattle.counted_store.proofs.images.image_need.Given as goal

abbrev pub invariant-loop-i : goal.invariant-loop-i
invariant-loop-i l = record {
  need : l.need ≡ frames_of (is_marked (map (λ page. page.page) (take l.i l.pages))) + 1;
  few : l.need ≤ 3 * l.i + 1;
}
