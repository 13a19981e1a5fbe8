use Rattle.std.proofs.Common.{◌+◌, [], ◌∷◌, refl, take}
use Rattle.std.proofs.lemmas.List.{take_more}
use Rattle.std.proofs.lemmas.Slice.{pushed}
use Rattle.plain_space.specs.PageCopies.{AreCopiesOf}
use Rattle.plain_space.proofs.PageCopies.{copies_of_more}
use Rattle.plain_space.proofs.page_copies.copy_all.Goals as goal

pub pages-preserved : goal.pages-preserved
pages-preserved c =
    let pages = c.args.pages.now in
    let i = c.pages.page-index in
    let item = c.page-item.result in
    let copy = c.in_ok-copy_page.field-0 in
    let list = pushed (copy ∷ []) refl c.in_ok-push.was c.push.ensures.items in
    let front = take_more pages i item c.pages-test.true in
    let more : AreCopiesOf (take (i + 1) pages) c.push.new.self.items =
    rw (list, front, ← c.page-item.is) (copies_of_more (take i pages)
    c.pages.list.items item copy c.pages.invariant c.in_ok-copy_page.ensures) in
    more
