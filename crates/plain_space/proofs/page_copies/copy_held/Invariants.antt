use Rattle.std.proofs.Common.{take}
use Rattle.std.specs.List.{filter}
use Rattle.plain_space.specs.PageCopies.{AreCopiesOf, holds_bytes}
use Rattle.plain_space.proofs.page_copies.copy_held.Given as goal

abbrev pub invariant-pages : goal.invariant-pages
invariant-pages l = AreCopiesOf (filter holds_bytes (take l.page-index l.pages)) l.list.items
