use Rattle.std.proofs.Common.{[], ◌∷◌, refl, sym, ◌∙◌}
use Rattle.std.proofs.lemmas.Slice.{pushed}
use Rattle.plain_space.proofs.PageCopies.{held_more, zeros_more}
use Rattle.plain_space.proofs.page_copies.copy_held.Goals as goal
use Rattle.plain_space.proofs.page_copies.copy_held.Goals.{
  then-holds_bytes+in_ok-copy_page+in_ok-push,
  else-holds_bytes,
}

pub pages-preserved : goal.pages-preserved
pages-preserved c =
    let pages = c.args.pages.now in
    let i = c.pages.page-index in
    let item = c.page-item.result in
    elim c.if-holds_bytes.branch [
      | then-holds_bytes+in_ok-copy_page+in_ok-push w ↦
          let copy = w.in_ok-copy_page.field-0 in
          let list = pushed (copy ∷ []) refl w.in_ok-push.was w.push.ensures.items in
          rw (w.list-is, list) (held_more pages i item c.pages.list.items copy c.pages-test.true
          c.page-item.is (sym c.holds_bytes.ensures ∙ w.if-holds_bytes.true) c.pages.invariant
          w.in_ok-copy_page.ensures)
      | else-holds_bytes w ↦
          rw w.list-is (zeros_more pages i item c.pages.list.items c.pages-test.true
          c.page-item.is (sym c.holds_bytes.ensures ∙ w.if-holds_bytes.false) c.pages.invariant)
    ]
