use Rattle.std.proofs.Common.{ap, ◌∙◌}
use Rattle.space_api.specs.Stores.{frozen}
use Rattle.plain_space.specs.Pages.{flat_of_pages}
use Rattle.plain_space.proofs.Copies.{copies_sound, copies_flat}
use Rattle.plain_space.proofs.frozen_pages.FrozenPages.of_start.Goals as goal

pub returns-clause-sound : goal.returns-clause-sound
returns-clause-sound c =
    let copies = rw (c.regions-2.ensures, c.pages.ensures) at c.in_ok-list.ensures in
    record {
      ordered = rw (c.in_ok-regions.ensures.items, c.regions.ensures)
          (copies_sound c.args.start.now.regions 0 c.args.start.now.pages
          c.in_ok-list.list.items c.keeps_layout.ensures.pages copies);
    }

pub returns-clause-flat : goal.returns-clause-flat
returns-clause-flat c =
    let copies = rw (c.regions-2.ensures, c.pages.ensures) at c.in_ok-list.ensures in
    ap (λ r. frozen (flat_of_pages r c.in_ok-list.list.items))
    (c.in_ok-regions.ensures.items ∙ c.regions.ensures)
    ∙ ap frozen (copies_flat c.args.start.now c.in_ok-list.list.items copies)
