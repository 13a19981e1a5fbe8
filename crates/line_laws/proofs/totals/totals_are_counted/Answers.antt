use Rattle.line_laws.proofs.Totalling.{all_are_free, lines_are_counted}
use Rattle.line_laws.proofs.totals.totals_are_counted.Goals as goal

pub returns-clause-counted : goal.returns-clause-counted
returns-clause-counted c = lines_are_counted

pub returns-clause-free : goal.returns-clause-free
returns-clause-free c = all_are_free
