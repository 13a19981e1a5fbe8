use Rattle.std.proofs.Common.{ℕ, sym, ◌∙◌, ap, option_map}
use Rattle.cache_lists.specs.Recent.{Recent, last_of}
use Rattle.slot_lists.specs.Held.{layer_slot, layer_made}
use Rattle.slot_lists.proofs.Standing.{last_key}
use Rattle.slot_lists.proofs.layer_slots.LayerSlots.last.Goals as goal

pub returns : goal.returns
returns g c =
    let list = c.self.inside.list in
    let W = g.row.L.Denot in
    c.last.ensures
    ∙ sym (last_key layer_slot layer_made c.self.inside.slots.slots list.room list.entries
    c.self.invariant.found)
    ∙ ap (λ (s : Recent ℕ W). option_map (λ (e : ℕ × W). e.0) (last_of s)) c.self.view_is
