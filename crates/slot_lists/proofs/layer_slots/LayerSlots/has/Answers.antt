use Rattle.std.proofs.Common.{ℕ, Option, nat_eq, sym, ◌∙◌, ap}
use Rattle.std.specs.Prelude.{is_some}
use Rattle.std.specs.Map.{lookup}
use Rattle.cache_lists.specs.Recent.{Recent}
use Rattle.slot_lists.specs.Held.{layer_slot, layer_made}
use Rattle.slot_lists.proofs.Standing.{held_has}
use Rattle.slot_lists.proofs.layer_slots.LayerSlots.has.Goals as goal

pub returns : goal.returns
returns g c =
    let test = nat_eq c.args.k in
    let es = c.self.inside.list.entries in
    let h = held_has layer_slot layer_made c.self.inside.slots.slots test es
    c.self.invariant.found in
    c.is_some.ensures
    ∙ ap (λ (o : Option ℕ). is_some o) c.find.ensures
    ∙ sym h
    ∙ ap (λ (s : Recent ℕ g.row.L.Denot). is_some (lookup test s.entries)) c.self.view_is
