use Rattle.journal_laws.proofs.Early.{line_so, place_then, earlier_then}
use Rattle.journal_laws.proofs.states.answers_fix_the_line.Goals as goal

pub returns-clause-line : goal.returns-clause-line
returns-clause-line c = line_so

pub returns-clause-place : goal.returns-clause-place
returns-clause-place c = place_then

pub returns-clause-earlier : goal.returns-clause-earlier
returns-clause-earlier c = earlier_then
