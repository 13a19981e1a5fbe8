use Rattle.frame_words.proofs.sharing.split.Given as goal

abbrev pub ghosts-cut : goal.ghosts-cut
ghosts-cut a = record { part = a._part.now }
