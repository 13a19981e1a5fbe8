use Rattle.std.proofs.Common.{ℕ, sym, ◌∙◌, ap}
use Rattle.cache_lists.specs.Recent.{Recent, is_full}
use Rattle.slot_lists.specs.Held.{layer_slot, layer_made}
use Rattle.slot_lists.proofs.Standing.{held_full}
use Rattle.slot_lists.proofs.layer_slots.LayerSlots.is_full.Goals as goal

pub returns : goal.returns
returns g c =
    let list = c.self.inside.list in
    c.is_full.ensures
    ∙ sym (held_full layer_slot layer_made c.self.inside.slots.slots list.room list.entries
    c.self.invariant.found)
    ∙ ap (λ (s : Recent ℕ (g.row.L.Denot)). is_full s) c.self.view_is
