use Rattle.journal_model.proofs.Sound.{reached_rooms, reached_once}
use Rattle.journal_model.proofs.laws.states_are_sound.Goals as goal

pub returns-clause-rooms : goal.returns-clause-rooms
returns-clause-rooms c = reached_rooms

pub returns-clause-once : goal.returns-clause-once
returns-clause-once c = reached_once
