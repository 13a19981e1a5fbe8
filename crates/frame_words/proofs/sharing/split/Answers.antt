use Rattle.frame_words.proofs.sharing.split.Goals as goal

pub cut-requires-clause-there : goal.cut-requires-clause-there
cut-requires-clause-there c = c.requires.there

pub returns-clause-kept : goal.returns-clause-kept
returns-clause-kept c = c.cut.ensures.kept

pub returns-clause-given : goal.returns-clause-given
returns-clause-given c = c.cut.ensures.given
