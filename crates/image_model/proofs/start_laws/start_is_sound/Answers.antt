use Rattle.std.proofs.Common.{arith}
use Rattle.image_model.specs.Pages.{page_limit}
use Rattle.image_model.specs.StartOf.{page_permission}
use Rattle.image_model.proofs.Soundness.{page-can_read, regions_of-sound, pages_of-sound}
use Rattle.image_model.proofs.Soundness.{start_pages-inside}
use Rattle.image_model.proofs.start_laws.start_is_sound.Goals as goal

pub returns : goal.returns
returns c = λ image stack aligned.
    let f = page_permission image.segments stack in
    record {
      aligned = aligned;
      regions = regions_of-sound f (page-can_read image.segments stack) 0 page_limit (omega arith);
      pages = pages_of-sound image.segments f 0 page_limit (omega arith);
      inside = start_pages-inside image.segments f;
    }
