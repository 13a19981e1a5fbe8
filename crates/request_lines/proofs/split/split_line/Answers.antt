use Rattle.std.proofs.Common.{◌≡◌, ◌+◌, length, ◌∙◌, sym, arith}
use Rattle.std.proofs.lemmas.List.{take_rest, drop_all}
use Rattle.request_lines.proofs.Cutting.{cut, one_line}
use Rattle.request_lines.proofs.split.split_line.Goals as goal

pub returns-then-feed-text-clause-lines : goal.returns-then-feed-text-clause-lines
returns-then-feed-text-clause-lines c =
    let text = c.args.text.now in
    let feed = c.place_of_feed-feed.result in
    rw (take_rest text (feed + 1))
    (cut text feed c.line_size-size.result c.place_of_feed-feed.ensures.value c.if-feed-text.true
    c.line_size-size.ensures.size)

pub returns-else-feed-text-clause-lines : goal.returns-else-feed-text-clause-lines
returns-else-feed-text-clause-lines c =
    let text = c.args.text.now in
    let feed = c.place_of_feed-feed.result in
    let all : feed ≡ length text = omega arith in
    rw (take_rest text feed, drop_all feed text (omega arith))
    (one_line text c.requires (sym c.place_of_feed-feed.ensures.value ∙ all))
