use Rattle.std.proofs.Common.{◌∷◌, [], subst, option_map}
use Rattle.journal_model.specs.declared.event.Event.TheVariants.{Want, End}
use Rattle.deployer.specs.Closing.{MayWant}
use Rattle.deployer.proofs.Going.{ok_then, wanted_may, went_appends, went_on}
use Rattle.deployer.proofs.closing.wanted.Goals as goal

pub finish-requires-clause-may : goal.finish-requires-clause-may
finish-requires-clause-may g c κs within = wanted_may c.args.i c.in-Some.c c.args.book.now
    c.want-in-Some.new.self (subst (λ o. MayWant c.args.i (option_map (λ h. h.0) o)
    c.args.book.now) c.in-Some.is c.requires.may) c.in-Ok-want.ensures.wanted

pub returns-in-Ok-want-clause-went : goal.returns-in-Ok-want-clause-went
returns-in-Ok-want-clause-went g c = ok_then c.finish.result _ _ (λ h.
    rw c.in-Some.is (went_on (Want c.args.i ∷ []) (End c.in-Some.c ∷ []) c.args.book.now
    c.want-in-Some.new.self c.finish.new.book (went_appends _ _ _ c.in-Ok-want.ensures.wanted) h))
    c.finish.ensures.went
