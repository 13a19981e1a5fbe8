use Rattle.service_ends.proofs.Closes.{closes_wanted, waiting_open}
use Rattle.std.proofs.Common.{None}
use Rattle.journal_model.specs.declared.answer.How.TheVariants as how
use Rattle.stay_laws.proofs.Settled.{settled_unserved}
use Rattle.service_ends.proofs.wanting.give_up_waiting.Goals as goal

pub wanted-requires-clause-open : goal.wanted-requires-clause-open
wanted-requires-clause-open g c κs within = waiting_open _ _ c.requires.waits.waiting

pub wanted-requires-clause-may : goal.wanted-requires-clause-may
wanted-requires-clause-may g c κs within = tt

pub returns-clause-closes : goal.returns-clause-closes
returns-clause-closes g c plan = closes_wanted plan (record {
  i = c.args.request.i;
  how = how.None;
  context = 0;
  used = 0;
}) c.memory_line.result None
    c.args.book.now c.wanted.new.book c.is_sound.ensures.held.log.reached c.requires.waits.known
    (waiting_open _ _ c.requires.waits.waiting) tt (λ h. settled_unserved _ _ _ c.args.request.i _
    c.is_sound.ensures.held.log.reached h c.requires.waits.waiting
    c.in_ok-wanted.ensures.went.legal) c.memory_line.ensures.number c.memory_line.ensures.how
    c.memory_line.ensures.context c.memory_line.ensures.used c.memory_line.ensures.shown
    c.in_ok-wanted.ensures.went
