use Rattle.layer_laws.proofs.Stored as stored
use Rattle.layer_laws.proofs.memory.layers_are_overlays.Goals as goal

pub returns : goal.returns
returns c = stored.layer_overlay
