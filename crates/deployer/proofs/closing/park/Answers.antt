use Rattle.std.proofs.Common.{ap, ◌-◌, length}
use Rattle.context_uc.specs.Views.{ContextView}
use Rattle.deployer.proofs.Going.{ok_then, went_so}
use Rattle.deployer.proofs.Handed.{context_loose, parked_same, parks_went}
use Rattle.deployer.proofs.closing.park.Goals as goal

pub end-requires-in-Ok-Some-after_bounds : goal.end-requires-in-Ok-Some-after_bounds
end-requires-in-Ok-Some-after_bounds g c κs within = context_loose _ _ _ c.args.i _ _ _
    c.in-Ok-Some.last _ _ _ c.args.book.now c.park.new.self c.is_sound.ensures.held.contexts
    c.in-Ok-Some.field-0-is c.in-Ok-Some.ensures.parked

pub returns-in-Ok-Some-clause-went : goal.returns-in-Ok-Some-clause-went
returns-in-Ok-Some-clause-went g c = ok_then c.give.result _ _ (λ h. went_so _ c.args.book.now
    c.park.new.self c.give.new.book (parked_same c.args.i _ c.args.book.now c.park.new.self
    c.strip-spares.new.context.id c.args.context.id _ _
    (g.T.Store.number c.strip-spares.result)
    (ap (λ (v : ContextView _). v.id) c.strip-spares.ensures.same)
    (ap (λ (v : ContextView _). length v.served - 1) c.strip-spares.ensures.same)
    ((g.met.T.Store.none_are_taken c.requires.copied).0 c.strip-spares.result)
    (parks_went c.args.i _ _ _ _ _ _ _ _ c.in-Ok-Some.ensures.parked)) h) c.give.ensures.went
