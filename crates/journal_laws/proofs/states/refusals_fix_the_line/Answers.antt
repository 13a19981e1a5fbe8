use Rattle.journal_laws.proofs.Early.{refuse_closes, want_closes}
use Rattle.journal_laws.proofs.states.refusals_fix_the_line.Goals as goal

pub returns-clause-refused : goal.returns-clause-refused
returns-clause-refused c = refuse_closes

pub returns-clause-wanted : goal.returns-clause-wanted
returns-clause-wanted c = want_closes
