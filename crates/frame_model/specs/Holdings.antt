-- What the seats of all holders stand for.
use Rattle.std.specs.Prelude.{List, map}
use Rattle.frame_model.specs.declared.holding.Holding.{Holding}
use Rattle.frame_model.specs.declared.holding.Tally.{Tally}
use Rattle.frame_model.specs.declared.view.View.{View}

-- nothing is counted
abbrev pub no_tally : Tally
no_tally = record {}

-- a new holder with this view
abbrev pub held : View → Holding
held v = record { view = v; tally = no_tally }

-- the same holder, with this view
abbrev pub with_view : Holding → View → Holding
with_view h v = record h { view = v }

-- what all holders have and know of the frames
abbrev pub views_of : List Holding → List View
views_of holdings = map (λ (h : Holding). h.view) holdings
