use Rattle.std.proofs.Common.{take}
use Rattle.plain_space.specs.Copies.{AreCopies}
use Rattle.plain_space.proofs.start_pages.copy_pages.Given as goal

abbrev pub invariant-pages : goal.invariant-pages
invariant-pages l = AreCopies l.regions (take l.page-index l.pages) l.list.items
