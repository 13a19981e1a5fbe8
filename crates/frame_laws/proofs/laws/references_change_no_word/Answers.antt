use Rattle.frame_laws.proofs.KnownWords.{gained_words, lost_words}
use Rattle.frame_laws.proofs.laws.references_change_no_word.Goals as goal

pub returns-clause-gained : goal.returns-clause-gained
returns-clause-gained c = gained_words

pub returns-clause-lost : goal.returns-clause-lost
returns-clause-lost c = lost_words
