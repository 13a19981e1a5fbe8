use Rattle.layer_laws.proofs.Determined as determined
use Rattle.layer_laws.proofs.places.one_place.Goals as goal

pub returns : goal.returns
returns c = determined.one_place
