use Rattle.journal_model.proofs.Apart.{distinct_apart}
use Rattle.journal_laws.proofs.Listing.{full_keys, room_keys}
use Rattle.journal_laws.proofs.lists.a_full_list_loses_its_last.Goals as goal

pub returns-clause-full : goal.returns-clause-full
returns-clause-full c = λ room j numbers l d h.
    full_keys room j numbers l (distinct_apart numbers d) h

pub returns-clause-room : goal.returns-clause-room
returns-clause-room c = room_keys
