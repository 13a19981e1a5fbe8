use Rattle.std.proofs.Common.{ℕ, sym, ◌∙◌, ap, option_map}
use Rattle.cache_lists.specs.Recent.{Recent, last_of}
use Rattle.slot_lists.specs.Held.{idle_slot, idle_made}
use Rattle.slot_lists.specs.Lists.{Waiting}
use Rattle.slot_lists.proofs.Standing.{last_key}
use Rattle.slot_lists.proofs.idle_slots.IdleSlots.last.Goals as goal

pub returns : goal.returns
returns g c =
    let list = c.self.inside.list in
    let W = Waiting g.row.C.Denot in
    c.last.ensures
    ∙ sym (last_key idle_slot idle_made c.self.inside.slots.slots list.room list.entries
    c.self.invariant.found)
    ∙ ap (λ (s : Recent ℕ W). option_map (λ (e : ℕ × W). e.0) (last_of s)) c.self.view_is
