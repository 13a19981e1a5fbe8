use Rattle.std.proofs.Common.{◌≡◌, ℕ, map, length, sym, ◌∙◌, subst, refl}
use Rattle.std.proofs.lemmas.List.{length-map}
use Rattle.cache_lists.specs.Recent.{Recent}
use Rattle.slot_lists.specs.Held.{idle_slot, idle_made, AreUnder, held}
use Rattle.slab.specs.Slab.{slab_len}
use Rattle.slot_lists.specs.Lists.{Waiting}
use Rattle.slot_lists.proofs.Standing.{held_length}
use Rattle.slot_lists.proofs.Waits.{slots_distinct, held_zip}
use Rattle.slot_lists.proofs.idle_slots.IdleSlots.into_slots.Goals as goal

pub returns : goal.returns
returns g c =
    let V = g.row.C.Denot in
    let W = Waiting g.row.C.Denot in
    let value : W → V = (λ (w : Waiting g.row.C.Denot). w.context) in
    let slots = c.self.inside.slots.slots in
    let es = c.self.inside.list.entries in
    let ws = held idle_slot idle_made slots es in
    let size : slab_len c.self.inside.slots ≡ length (map (λ (e : ℕ × W). value e.1) ws) =
    c.self.invariant.counted
    ∙ (sym (held_length idle_slot idle_made slots es c.self.invariant.found)
    ∙ sym (length-map ws (λ (e : ℕ × W). value e.1))) in
    subst (λ (s : Recent ℕ W). AreUnder (map (λ (e : ℕ × W). value e.1) s.entries)
    c.self.inside.slots)
    c.self.view_is (record {
      slots = _;
      apart = slots_distinct idle_slot es c.self.invariant.apart;
      found = held_zip idle_slot idle_made value (λ e v. refl) slots es c.self.invariant.found;
      counted = size;
    })
