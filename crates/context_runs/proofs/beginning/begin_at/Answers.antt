use Rattle.space_api.specs.Flat.{machine_of}
use Rattle.context_uc.specs.Views.{silent}
use Rattle.context_runs.proofs.Starting.{place_is_low}
use Rattle.context_runs.proofs.beginning.begin_at.Goals as goal

-- src/beginning.rt:72:5
pub begin-requires-clause-level : goal.begin-requires-clause-level
begin-requires-clause-level g c =
    place_is_low c.args.plan.now c.requires.stands.layer.start c.args.spot.place
    (machine_of c.args.spot.hart (g.T.Space.Space.flat c.args.space) silent)
    c.is_sound.ensures.parts c.requires.stands.place_is
