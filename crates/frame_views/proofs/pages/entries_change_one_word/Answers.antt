use Rattle.frame_views.proofs.NewPages.{entered_word_here, entered_word_else, entered_kind}
use Rattle.frame_views.proofs.pages.entries_change_one_word.Goals as goal

pub returns-clause-here : goal.returns-clause-here
returns-clause-here c = entered_word_here

pub returns-clause-rest : goal.returns-clause-rest
returns-clause-rest c = entered_word_else

pub returns-clause-kinds : goal.returns-clause-kinds
returns-clause-kinds c = entered_kind
