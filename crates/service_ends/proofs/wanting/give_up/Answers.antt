use Rattle.service_ends.proofs.Closes.{closes_wanted}
use Rattle.std.proofs.Common.{Some}
use Rattle.stay_laws.proofs.Settled.{settled_wanted}
use Rattle.service_ends.proofs.wanting.give_up.Goals as goal

pub wanted-requires-clause-open : goal.wanted-requires-clause-open
wanted-requires-clause-open g c κs within = c.requires.serving.1.work.open_one

pub wanted-requires-clause-may : goal.wanted-requires-clause-may
wanted-requires-clause-may g c κs within = c.requires.serving

pub returns-clause-closes : goal.returns-clause-closes
returns-clause-closes g c plan = closes_wanted plan c.args.origin c.memory_line.result
    (Some c.args.origin.context) c.args.book.now c.wanted.new.book
    c.is_sound.ensures.held.log.reached c.requires.known c.requires.serving.1.work.open_one
    c.requires.serving (λ h. settled_wanted _ _ _ c.args.origin.i c.args.origin.context
    c.requires.serving.0 _ c.is_sound.ensures.held.log.reached h c.requires.serving.1
    c.in_ok-wanted.ensures.went.legal) c.memory_line.ensures.number c.memory_line.ensures.how
    c.memory_line.ensures.context c.memory_line.ensures.used c.memory_line.ensures.shown
    c.in_ok-wanted.ensures.went
