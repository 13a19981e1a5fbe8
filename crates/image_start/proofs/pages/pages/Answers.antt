use Rattle.std.proofs.Common.{◌+◌, sym, subst, ◌∙◌, ap, refl, arith, []}
use Rattle.image_model.specs.StartOf.{page_permission}
use Rattle.image_model.specs.Permission.{is_some_permission}
use Rattle.image_start.proofs.FilePages.{AreSoFar, none_so_far, later_so_far, page_so_far}
use Rattle.image_start.proofs.FilePages.{other_so_far, all_found}
use Rattle.image_start.proofs.pages.pages.Goals as goal
use Rattle.image_start.proofs.pages.pages.Goals.{then-is_some+in_ok-bytes+in_ok-push, else-is_some}

pub pages-init : goal.pages-init
pages-init c =
    let segments = c.args.segments.now in
    let f = page_permission segments c.args.stack in
    let next = c.next_file_page-page in
    record {
      within = next.ensures.within;
      file = next.ensures.some;
      done = subst (AreSoFar segments f next.result) (sym c.new-pages.ensures.items)
          (later_so_far segments f 0 next.result [] (omega arith) next.ensures.none
          (none_so_far segments f));
    }

pub pages-preserved : goal.pages-preserved
pages-preserved c =
    let segments = c.args.segments.now in
    let f = page_permission segments c.args.stack in
    let page = c.pages.page in
    let next = c.next_file_page-page-in-pages in
    let found = c.if-is_some.pages.items in
    let before = c.pages.invariant.done in
    let file = c.pages.invariant.file c.pages-test.true in
    let permission = ap is_some_permission c.page_permission.ensures in
    let done : AreSoFar segments f (page + 1) found = elim c.if-is_some.branch [
      | then-is_some+in_ok-bytes+in_ok-push w ↦
          let some = sym permission ∙ sym w.if-is_some.ensures in
          let more = page_so_far segments f page _ (record {
            page = page;
            bytes = w.in_ok-bytes.bytes;
          }) refl w.in_ok-bytes.ensures some file before in
          let all = ap (λ v. v.items) w.pages-is ∙ w.in_ok-push.ensures.items in
          subst (AreSoFar segments f (page + 1)) (sym all) more
      | else-is_some w ↦
          let none = sym permission ∙ sym w.if-is_some.ensures in
          subst (AreSoFar segments f (page + 1)) (sym (ap (λ v. v.items) w.pages-is))
          (other_so_far segments f page _ none before)
    ] in
    record {
      within = next.ensures.within;
      file = next.ensures.some;
      done = later_so_far segments f (page + 1) next.result found next.ensures.from
          next.ensures.none done;
    }

pub returns : goal.returns
returns c =
    let segments = c.args.segments.now in
    let f = page_permission segments c.args.stack in
    all_found segments f c.pages.page _ c.pages.invariant.within c.pages-test.false
    c.pages.invariant.done
