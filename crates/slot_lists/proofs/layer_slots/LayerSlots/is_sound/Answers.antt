use Rattle.std.proofs.Common.{◌≤◌, ℕ, List, length, nat_eq, sym, subst}
use Rattle.std.specs.List.{IsDistinct}
use Rattle.std.specs.Map.{keys_of}
use Rattle.cache_lists.specs.Recent.{Recent}
use Rattle.slot_lists.specs.Held.{layer_slot, layer_made}
use Rattle.slot_lists.proofs.Standing.{held_keys, held_length}
use Rattle.slot_lists.proofs.layer_slots.LayerSlots.is_sound.Goals as goal

pub returns-clause-distinct : goal.returns-clause-distinct
returns-clause-distinct g c =
    let es = c.self.inside.list.entries in
    let keys = held_keys layer_slot layer_made c.self.inside.slots.slots es
    c.self.invariant.found in
    subst (λ (s : Recent ℕ (g.row.L.Denot)). IsDistinct nat_eq (keys_of s.entries)) c.self.view_is
    (subst (λ (ks : List ℕ). IsDistinct nat_eq ks) (sym keys) c.is_sound.ensures.distinct)

pub returns-clause-within : goal.returns-clause-within
returns-clause-within g c =
    let es = c.self.inside.list.entries in
    let size = held_length layer_slot layer_made c.self.inside.slots.slots es
    c.self.invariant.found in
    subst (λ (s : Recent ℕ (g.row.L.Denot)). length s.entries ≤ s.room) c.self.view_is
    (subst (λ (n : ℕ). n ≤ c.self.inside.list.room) (sym size) c.is_sound.ensures.within)
