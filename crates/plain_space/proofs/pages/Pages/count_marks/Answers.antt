use Rattle.std.proofs.Common.{sym, ap, ◌∙◌, arith}
use Rattle.std.specs.List.{count_by}
use Rattle.image_model.specs.Pages.{page_limit}
use Rattle.plain_space.specs.Marks.{is_marked}
use Rattle.plain_space.specs.Space.{flat_in}
use Rattle.plain_space.proofs.Counting.{marks_are_counted, count_below-le}
use Rattle.plain_space.proofs.pages.Pages.count_marks.Goals as goal

pub overflow_cast-result : goal.overflow_cast-result
overflow_cast-result c =
    let pages = c.args.self.now in
    let counted = marks_are_counted pages.regions.items 0 pages.list.items page_limit
    c.requires.ordered in
    let few = count_below-le (flat_in pages).written page_limit in
    omega (arith, few, counted, c.marked.ensures, ap (count_by is_marked) c.deref.ensures.value)

pub returns : goal.returns
returns c =
    let pages = c.args.self.now in
    c.marked.ensures ∙ ap (count_by is_marked) c.deref.ensures.value
    ∙ sym (marks_are_counted pages.regions.items 0 pages.list.items page_limit
    c.requires.ordered)
