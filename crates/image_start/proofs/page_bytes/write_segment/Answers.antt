use Rattle.std.proofs.Common.{◌≡◌, ◌+◌, ◌-◌, length, take, drop, ap, arith}
use Rattle.image_start.proofs.Written.{IsPart, copied}
use Rattle.image_start.proofs.page_bytes.write_segment.Goals as goal

pub returns-then-from-lt-PAGE_SIZE : goal.returns-then-from-lt-PAGE_SIZE
returns-then-from-lt-PAGE_SIZE c =
    let before = c.saturating_sub-before.result in
    let from = c.saturating_sub-from.result in
    let count = c.min-count.result in
    let bytes : c.as_slice-bytes.result.now ≡ c.args.segment.now.bytes = c.as_slice-bytes.ensures in
    let size = ap length bytes in
    let is : IsPart c.args.segment.now c.args.start before from count = record {
      before_is = c.saturating_sub-before.ensures;
      from_is = c.saturating_sub-from.ensures;
      count_is = omega arith;
      some_bytes = omega arith;
      on_page = c.if-from-lt-PAGE_SIZE.true;
    } in
    let source : before + count - before ≡ count = omega arith in
    let target : from + count - from ≡ count = omega arith in
    let part : c.copy_from_slice.new.self ≡ take count (drop before c.args.segment.now.bytes) =
    rw (← bytes, ← source) c.copy_from_slice.ensures.after in
    rw target (copied c.args.segment.now c.args.start before from count c.args.page.now _ is
    c.requires part)
