use Rattle.std.proofs.Common.{sym, ◌∙◌}
use Rattle.run_journal.proofs.Debts.{built_kept}
use Rattle.run_journal.proofs.current.Current.owed_after_built.Goals as goal

pub returns-then-contains : goal.returns-then-contains
returns-then-contains c =
    built_kept c.args.sizes.now c.args.self.now.kept c.args.k
    (sym (rw (c.from.ensures, c.kept.ensures) at c.contains.ensures) ∙ c.if-contains.true)
