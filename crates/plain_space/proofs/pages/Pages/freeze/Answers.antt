use Rattle.std.proofs.Common.{ap, ◌∙◌}
use Rattle.plain_space.specs.Pages.{flat_of_pages}
use Rattle.plain_space.proofs.PageCopies.{copies_of_sound, copies_of_flat}
use Rattle.plain_space.proofs.pages.Pages.freeze.Goals as goal

pub returns-clause-sound : goal.returns-clause-sound
returns-clause-sound c =
    let pages = c.args.self.now in
    let copies = rw c.deref-2.ensures.value at c.in_ok-copies.ensures in
    record {
      ordered = rw c.replace-list.ensures.after
          (copies_of_sound pages.regions.items 0 pages.list.items c.in_ok-copies.copies.items
          c.requires.ordered copies);
    }

pub returns-clause-flat : goal.returns-clause-flat
returns-clause-flat c =
    let pages = c.args.self.now in
    let copies = rw c.deref-2.ensures.value at c.in_ok-copies.ensures in
    ap (λ list. flat_of_pages pages.regions.items list.items) c.replace-list.ensures.after
    ∙ copies_of_flat pages.regions.items pages.list.items c.in_ok-copies.copies.items copies
