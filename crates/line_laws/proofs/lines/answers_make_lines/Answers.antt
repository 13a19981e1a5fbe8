use Rattle.line_laws.proofs.Closing.{answer_makes_line, want_makes_line}
use Rattle.line_laws.proofs.lines.answers_make_lines.Goals as goal

pub returns-clause-answered : goal.returns-clause-answered
returns-clause-answered c = answer_makes_line

pub returns-clause-wanted : goal.returns-clause-wanted
returns-clause-wanted c = want_makes_line
