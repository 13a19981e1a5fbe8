use Rattle.image_model.specs.Pages.{page_limit}
use Rattle.image_model.specs.StartOf.{page_permission}
use Rattle.image_model.proofs.Pages.{pages_from_0}
use Rattle.image_model.proofs.start_laws.start_has_bytes.Goals as goal

pub returns : goal.returns
returns c = λ image stack a.
    pages_from_0 image.segments (page_permission image.segments stack) page_limit a
