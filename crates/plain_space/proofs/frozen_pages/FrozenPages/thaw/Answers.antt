use Rattle.std.proofs.Common.{ap, ◌∙◌}
use Rattle.std.specs.List.{filter}
use Rattle.plain_space.specs.PageCopies.{holds_bytes}
use Rattle.plain_space.specs.Pages.{flat_of_pages}
use Rattle.plain_space.proofs.PageCopies.{filter_sound, filter_flat, copies_of_sound}
use Rattle.plain_space.proofs.PageCopies.{copies_of_flat}
use Rattle.plain_space.proofs.frozen_pages.FrozenPages.thaw.Goals as goal

pub returns-clause-sound : goal.returns-clause-sound
returns-clause-sound c =
    let pages = c.args.self.now in
    let copies = rw c.deref-2.ensures.value at c.in_ok-list.ensures in
    record {
      ordered = rw (c.in_ok-regions.ensures.items, c.deref.ensures.value)
          (copies_of_sound pages.regions.items 0 (filter holds_bytes pages.list.items)
          c.in_ok-list.list.items
          (filter_sound pages.regions.items 0 holds_bytes pages.list.items c.requires.ordered)
          copies);
    }

pub returns-clause-flat : goal.returns-clause-flat
returns-clause-flat c =
    let pages = c.args.self.now in
    let copies = rw c.deref-2.ensures.value at c.in_ok-list.ensures in
    ap (λ r. flat_of_pages r c.in_ok-list.list.items)
    (c.in_ok-regions.ensures.items ∙ c.deref.ensures.value)
    ∙ copies_of_flat pages.regions.items (filter holds_bytes pages.list.items)
    c.in_ok-list.list.items copies
    ∙ filter_flat pages.regions.items pages.list.items c.requires.ordered
