use Rattle.layer_laws.proofs.Validity as lemma
use Rattle.layer_laws.proofs.places.places_are_valid.Goals as goal

pub returns : goal.returns
returns c = lemma.place-valid
