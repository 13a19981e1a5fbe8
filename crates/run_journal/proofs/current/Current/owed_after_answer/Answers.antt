use Rattle.std.proofs.Common.{sym, ◌∙◌}
use Rattle.run_journal.proofs.Debts.{answered_full, answered_room}
use Rattle.run_journal.proofs.current.Current.owed_after_answer.Goals as goal

pub returns-then-is_full : goal.returns-then-is_full
returns-then-is_full c =
    rw (← c.sizes.view_is) (answered_full _ c.args.self.now.idle c.args.c c.args.u
    c.if-sizes-ge1.true (rw (c.from.ensures, c.from-then-sizes-ge1.ensures) at c.if-from.true)
    (sym (rw c.idle.ensures at c.is_full.ensures) ∙ c.if-is_full.true))

pub returns-else-is_full : goal.returns-else-is_full
returns-else-is_full c =
    rw (← c.sizes.view_is) (answered_room _ c.args.self.now.idle c.args.c c.args.u
    c.if-sizes-ge1.true (rw (c.from.ensures, c.from-then-sizes-ge1.ensures) at c.if-from.true)
    (sym (rw c.idle.ensures at c.is_full.ensures) ∙ c.if-is_full.false))
