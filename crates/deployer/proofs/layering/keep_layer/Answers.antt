use Rattle.deployer.proofs.Going.{ok_then}
use Rattle.deployer.proofs.Handed.{layers_loose, layers_went}
use Rattle.deployer.proofs.layering.keep_layer.Goals as goal

pub release-requires-after_bounds : goal.release-requires-after_bounds
release-requires-after_bounds g c κs within = layers_loose _ _ _ c.args.c c.args.pages
    c.args.layer c.in-Ok-Some.last _ c.args.layer.number c.args.book.now c.keep.new.self
    c.is_sound.ensures.held.layers c.requires.above.number c.requires.above.number_is
    c.requires.above.loose c.in-Ok-Some.field-0-is c.in-Ok-Some.ensures.kept

pub returns-in-Ok-Some-clause-went : goal.returns-in-Ok-Some-clause-went
returns-in-Ok-Some-clause-went g c = ok_then c.give.result _ _ (λ h. layers_went c.args.c
    c.args.pages c.args.layer _ c.args.layer.number c.args.book.now c.keep.new.self
    c.give.new.book c.in-Ok-Some.ensures.kept h) c.give.ensures.went
