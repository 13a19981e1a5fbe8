use Rattle.std.proofs.Common.{◌∙◌, ap, refl}
use Rattle.book_log.specs.Logged.{replayed}
use Rattle.book_log.proofs.Logging.{first_logged, first_replayed}
use Rattle.book_log.proofs.log.Log.open.Goals as goal

pub invariant_of-result : goal.invariant_of-result
invariant_of-result c = rw (c.new.ensures.items, c.new-2.ensures.items)
    (first_logged c.args.sizes c.requires, rw (first_replayed c.args.sizes) refl)

pub returns-clause-state : goal.returns-clause-state
returns-clause-state c =
    ap (replayed c.args.sizes) c.new.ensures.items ∙ first_replayed c.args.sizes
