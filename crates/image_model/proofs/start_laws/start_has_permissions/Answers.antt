use Rattle.image_model.specs.Pages.{page_limit}
use Rattle.image_model.specs.StartOf.{page_permission}
use Rattle.image_model.proofs.Regions.{regions_from_0}
use Rattle.image_model.proofs.start_laws.start_has_permissions.Goals as goal

pub returns : goal.returns
returns c = λ image stack page.
    regions_from_0 (page_permission image.segments stack) page_limit page
