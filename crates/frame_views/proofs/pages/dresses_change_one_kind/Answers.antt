use Rattle.frame_views.proofs.NewPages.{dressed_loose}
use Rattle.frame_views.proofs.NewPages.{dressed_kind_here, dressed_kind_else, dressed_words}
use Rattle.frame_views.proofs.NewPages.{dressed_reach}
use Rattle.frame_views.proofs.pages.dresses_change_one_kind.Goals as goal

pub returns-clause-here : goal.returns-clause-here
returns-clause-here c = dressed_kind_here

pub returns-clause-rest : goal.returns-clause-rest
returns-clause-rest c = dressed_kind_else

pub returns-clause-words : goal.returns-clause-words
returns-clause-words c = dressed_words

pub returns-clause-reach : goal.returns-clause-reach
returns-clause-reach c = dressed_reach

pub returns-clause-loose : goal.returns-clause-loose
returns-clause-loose c = dressed_loose
