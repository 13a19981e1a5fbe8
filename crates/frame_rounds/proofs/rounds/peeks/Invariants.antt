use Rattle.std.proofs.Common.{◌≡◌}
use Rattle.frame_words.specs.Holders.{view, IsOf}
use Rattle.frame_rounds.specs.Rows.{put_view}
use Rattle.frame_rounds.proofs.rounds.peeks.Given as goal

abbrev pub invariant-loop : goal.invariant-loop
invariant-loop l = (view l.h ≡ put_view) × IsOf l.h l.t
