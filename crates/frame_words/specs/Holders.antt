-- Holders and tables as contracts see them.
use Rattle.std.specs.Prelude.{◌≡◌}
use Rattle.frame_model.specs.declared.view.View.{View}
use Rattle.frame_words.specs.declared.holder.Holder.{Holder}
use Rattle.frame_words.specs.declared.table.FrameTable.{FrameTable}

-- what a holder has and knows
abbrev pub view : Holder → View
view h = h.seat.me.0.view

-- the holder is one of this table
abbrev pub IsOf : Holder → FrameTable → Type 0
IsOf h t = h.seat.table_id ≡ t.table.shared.table_id

-- both are holders of one table
abbrev pub IsBeside : Holder → Holder → Type 0
IsBeside h other = h.seat.table_id ≡ other.seat.table_id
