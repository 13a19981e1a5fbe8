use Rattle.layer_laws.proofs.Standing as lemma
use Rattle.layer_laws.proofs.places.layers_stand_on_places.Goals as goal

pub returns-clause-step : goal.returns-clause-step
returns-clause-step c = lemma.layer_place

pub returns-clause-below : goal.returns-clause-below
returns-clause-below c = lemma.layer_under
