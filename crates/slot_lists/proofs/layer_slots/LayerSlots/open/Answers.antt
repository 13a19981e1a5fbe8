use Rattle.std.proofs.Common.{ℕ, ◌∙◌, ap, List}
use Rattle.cache_lists.specs.Recent.{Recent}
use Rattle.slot_lists.specs.Held.{layer_slot, layer_made, held}
use Rattle.slot_lists.proofs.Standing.{held_none}
use Rattle.slot_lists.proofs.layer_slots.LayerSlots.open.Goals as goal

pub returns : goal.returns
returns g c =
    let W = g.row.L.Denot in
    let slots = c.new-slots.result.slots in
    let n = held_none layer_slot layer_made slots in
    let seen : Recent ℕ (ℕ) → Recent ℕ W = λ l. record {
      room = l.room;
      entries = held layer_slot layer_made slots l.entries;
    } in
    ap seen c.in_ok-list.ensures
    ∙ ap (λ (ws : List (ℕ × W)). record { room = c.args.room; entries = ws }) n
