use Rattle.layer_laws.proofs.Standing as lemma
use Rattle.layer_laws.proofs.places.images_are_places.Goals as goal

pub returns-clause-place : goal.returns-clause-place
returns-clause-place c = lemma.image_place

pub returns-clause-there : goal.returns-clause-there
returns-clause-there c = lemma.image_there
