use Rattle.std.proofs.Common.{ℕ, sym, ◌∙◌, ap}
use Rattle.cache_lists.specs.Recent.{Recent, is_full}
use Rattle.slot_lists.specs.Held.{idle_slot, idle_made}
use Rattle.slot_lists.specs.Lists.{Waiting}
use Rattle.slot_lists.proofs.Standing.{held_full}
use Rattle.slot_lists.proofs.idle_slots.IdleSlots.is_full.Goals as goal

pub returns : goal.returns
returns g c =
    let list = c.self.inside.list in
    c.is_full.ensures
    ∙ sym (held_full idle_slot idle_made c.self.inside.slots.slots list.room list.entries
    c.self.invariant.found)
    ∙ ap (λ (s : Recent ℕ (Waiting g.row.C.Denot)). is_full s) c.self.view_is
