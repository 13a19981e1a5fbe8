use Rattle.layer_laws.proofs.Standing as lemma
use Rattle.layer_laws.proofs.layers.layers_are_there_or_not.Goals as goal

pub returns : goal.returns
returns c = lemma.layer_or_reason
