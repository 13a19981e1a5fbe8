use Rattle.layer_laws.proofs.Standing as lemma
use Rattle.layer_laws.proofs.places.places_are_quiet.Goals as goal

pub returns : goal.returns
returns c = lemma.place_quiet
