use Rattle.std.proofs.Common.{take}
use Rattle.plain_space.specs.PageCopies.{AreCopiesOf}
use Rattle.plain_space.proofs.page_copies.copy_all.Given as goal

abbrev pub invariant-pages : goal.invariant-pages
invariant-pages l = AreCopiesOf (take l.page-index l.pages) l.list.items
