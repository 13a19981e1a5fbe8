use Rattle.batch_model.proofs.Appending.{parks_join, parks_next, ok_next, parks_whole}
use Rattle.batch_model.proofs.Appending.{builds_join, lines_stay, lines_more}
use Rattle.batch_model.proofs.laws.batches_grow.Goals as goal

pub returns-clause-parks : goal.returns-clause-parks
returns-clause-parks c = parks_join

pub returns-clause-so_far : goal.returns-clause-so_far
returns-clause-so_far c = parks_next

pub returns-clause-ok : goal.returns-clause-ok
returns-clause-ok c = ok_next

pub returns-clause-whole : goal.returns-clause-whole
returns-clause-whole c = parks_whole

pub returns-clause-builds : goal.returns-clause-builds
returns-clause-builds c = builds_join

pub returns-clause-lines : goal.returns-clause-lines
returns-clause-lines c = lines_stay

pub returns-clause-next : goal.returns-clause-next
returns-clause-next c = lines_more
