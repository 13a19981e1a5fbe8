use Rattle.deployer.proofs.Going.{ok_then, went_appends, went_so}
use Rattle.deployer.proofs.closing.finish.Goals as goal

pub returns-in-Ok-clause-went : goal.returns-in-Ok-clause-went
returns-in-Ok-clause-went g c = ok_then c.give.result _ _ (λ h. went_so _ c.args.book.now
    c.end.new.self c.give.new.book (went_appends _ _ _ c.in-Ok.ensures.over) h)
    c.give.ensures.went
