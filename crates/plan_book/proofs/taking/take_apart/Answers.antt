use Rattle.std.proofs.Common.{refl}
use Rattle.plan_book.proofs.Shelves.{thrice_returned}
use Rattle.plan_book.proofs.taking.take_apart.Goals as goal

pub end_all-requires-clause-loose : goal.end_all-requires-clause-loose
end_all-requires-clause-loose g c κs within = c.requires.loose.contexts

pub release_all-requires-clause-loose : goal.release_all-requires-clause-loose
release_all-requires-clause-loose g c κs within = c.requires.loose.layers

pub release_images-requires-clause-loose : goal.release_images-requires-clause-loose
release_images-requires-clause-loose g c κs within = c.requires.loose.images

pub returns-clause-shelf : goal.returns-clause-shelf
returns-clause-shelf g c = thrice_returned _ _ _ _ _ _ _ c.end_all.ensures.shelf
    c.release_all.ensures.shelf c.release_images.ensures.shelf

pub returns-clause-started : goal.returns-clause-started
returns-clause-started g c = refl
