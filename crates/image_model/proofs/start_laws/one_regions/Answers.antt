use Rattle.image_model.proofs.Joined.{regions_from_0-one}
use Rattle.image_model.proofs.start_laws.one_regions.Goals as goal

pub returns : goal.returns
returns c = λ rs f. regions_from_0-one f rs
