use Rattle.frame_words.specs.Holders.{view, IsOf}
use Rattle.frame_rounds.specs.Rows.{IsPut}
use Rattle.frame_rounds.proofs.rounds.puts.Given as goal

abbrev pub invariant-loop-round : goal.invariant-loop-round
invariant-loop-round l = IsPut (view l.h) × IsOf l.h l.t
