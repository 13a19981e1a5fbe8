use Rattle.std.proofs.Common.{◌-◌, ap, ◌∙◌}
use Rattle.space_laws.specs.Growth.{with_pages, none_yet}
use Rattle.counted_space.specs.Marks.{is_marked}
use Rattle.counted_space.proofs.Lists.{need-sum}
use Rattle.counted_store.proofs.marks.page_need.Goals as goal

pub returns-clause-need : goal.returns-clause-need
returns-clause-need g c =
    need-sum (with_pages c.args.first (c.args.page - c.args.first)
    (is_marked (g.P.PageSet.numbers c.args.pages.now)))
    c.args.page c.none_yet.result c.none_yet-2.result c.none_yet-3.result
    (c.none_yet.ensures ∙ ap none_yet c.has_span.ensures)
    (c.none_yet-2.ensures ∙ ap none_yet c.has_span-2.ensures)
    (c.none_yet-3.ensures ∙ ap none_yet c.has_span-3.ensures)
