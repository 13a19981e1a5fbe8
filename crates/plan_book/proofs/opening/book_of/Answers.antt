use Rattle.plan_book.proofs.Openable.{no_root}
use Rattle.plan_book.proofs.opening.book_of.Goals as goal

pub open-requires-clause-stake : goal.open-requires-clause-stake
open-requires-clause-stake g c = no_root c.args.sizes.root c.requires.root

pub open-requires-clause-notes : goal.open-requires-clause-notes
open-requires-clause-notes g c = no_root c.args.sizes.root c.requires.root

pub open-requires-clause-whole : goal.open-requires-clause-whole
open-requires-clause-whole g c = no_root c.args.sizes.root c.requires.root
