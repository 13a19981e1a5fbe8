use Rattle.std.proofs.Common.{ℕ, nat_eq, sym, ◌∙◌, ap, refl}
use Rattle.std.specs.Map.{lookup}
use Rattle.cache_lists.specs.Recent.{Recent}
use Rattle.slot_lists.specs.Held.{held, layer_slot, layer_made}
use Rattle.slot_lists.proofs.Standing.{map_same}
use Rattle.slot_lists.proofs.Changing.{taken_value, missed_value}
use Rattle.slot_lists.proofs.layer_slots.LayerSlots.get.Goals as goal

pub returns-in-Some : goal.returns-in-Some
returns-in-Some g c =
    let test = nat_eq c.args.k in
    let es = c.self.inside.list.entries in
    let slots = c.self.inside.slots.slots in
    let w = taken_value layer_slot layer_made slots test es (lookup test es) c.in-Some.slot
    (λ (w : g.row.L.Denot). w) (λ e v. refl) refl
    (map_same (lookup test es) ∙ sym c.in-Some.ensures) c.self.invariant.found in
    c.get.ensures ∙ (sym w ∙ (map_same (lookup test (held layer_slot layer_made slots es))
    ∙ ap (λ (s : Recent ℕ g.row.L.Denot). lookup test s.entries) c.self.view_is))

pub returns-in-None : goal.returns-in-None
returns-in-None g c =
    let test = nat_eq c.args.k in
    let es = c.self.inside.list.entries in
    let w = missed_value layer_slot layer_made c.self.inside.slots.slots test es (lookup test es)
    refl
    (map_same (lookup test es) ∙ sym c.in-None.ensures) c.self.invariant.found in
    sym w ∙ ap (λ (s : Recent ℕ g.row.L.Denot). lookup test s.entries) c.self.view_is
