use Rattle.layer_model_tests.proofs.Layering as layering
use Rattle.layer_model_tests.proofs.worked.layers_are_there.Goals as goal

pub returns-clause-lowest : goal.returns-clause-lowest
returns-clause-lowest c = layering.three0_shows

pub returns-clause-middle : goal.returns-clause-middle
returns-clause-middle c = layering.three1_shows

pub returns-clause-highest : goal.returns-clause-highest
returns-clause-highest c = layering.three2_shows

pub returns-clause-unread : goal.returns-clause-unread
returns-clause-unread c = layering.unread1_shows

pub returns-clause-round : goal.returns-clause-round
returns-clause-round c = layering.round0_shows

pub returns-clause-printed : goal.returns-clause-printed
returns-clause-printed c = layering.printed0_shows

pub returns-clause-second : goal.returns-clause-second
returns-clause-second c = layering.second0_shows
