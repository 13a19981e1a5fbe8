use Rattle.frame_views.proofs.NewPages.{put_loose}
use Rattle.frame_views.proofs.NewPages.{put_word_here, put_word_else, put_kind, put_reach}
use Rattle.frame_views.proofs.pages.puts_change_one_word.Goals as goal

pub returns-clause-here : goal.returns-clause-here
returns-clause-here c = put_word_here

pub returns-clause-rest : goal.returns-clause-rest
returns-clause-rest c = put_word_else

pub returns-clause-kinds : goal.returns-clause-kinds
returns-clause-kinds c = put_kind

pub returns-clause-reach : goal.returns-clause-reach
returns-clause-reach c = put_reach

pub returns-clause-loose : goal.returns-clause-loose
returns-clause-loose c = put_loose
