use Rattle.layer_laws.proofs.Stored as stored
use Rattle.layer_laws.proofs.memory.contexts_are_overlays.Goals as goal

pub returns : goal.returns
returns c = stored.context_overlay
