use Rattle.image_model.specs.Pages.{page_limit}
use Rattle.image_model.specs.StartOf.{page_permission}
use Rattle.image_model.proofs.Joined.{regions_of-joined}
use Rattle.image_model.proofs.start_laws.start_is_joined.Goals as goal

pub returns : goal.returns
returns c = λ image stack.
    regions_of-joined (page_permission image.segments stack) 0 page_limit
