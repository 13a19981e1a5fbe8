use Rattle.frame_laws.proofs.KnownWords.{kept_words, given_words}
use Rattle.frame_laws.proofs.laws.cut_views_know_what_was_known.Goals as goal

pub returns-clause-kept : goal.returns-clause-kept
returns-clause-kept c = kept_words

pub returns-clause-given : goal.returns-clause-given
returns-clause-given c = given_words
