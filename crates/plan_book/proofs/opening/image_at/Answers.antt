use Rattle.plan_book.proofs.Openable.{shelf_kept}
use Rattle.plan_book.proofs.opening.image_at.Goals as goal

pub returns-in-Ok-clause-shelf : goal.returns-in-Ok-clause-shelf
returns-in-Ok-clause-shelf g c = shelf_kept g.T.Space.Space.takes_frames _ _ _ c.args.start _ _
    c.requires.starts c.requires.within c.requires.copied c.in-Ok.ensures.opened
