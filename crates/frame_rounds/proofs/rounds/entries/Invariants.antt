use Rattle.std.proofs.Common.{◌≡◌}
use Rattle.frame_words.specs.Holders.{view, IsOf}
use Rattle.frame_rounds.specs.Rows.{referred_view}
use Rattle.frame_rounds.proofs.rounds.entries.Given as goal

abbrev pub invariant-loop : goal.invariant-loop
invariant-loop l = (view l.h ≡ referred_view) × IsOf l.h l.t
