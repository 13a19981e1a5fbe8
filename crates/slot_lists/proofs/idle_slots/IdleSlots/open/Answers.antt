use Rattle.std.proofs.Common.{ℕ, ◌∙◌, ap, List}
use Rattle.cache_lists.specs.Recent.{Recent}
use Rattle.cache_lists.specs.declared.idle_list.IdleContext.{IdleContext as Idle}
use Rattle.slot_lists.specs.Lists.{Waiting}
use Rattle.slot_lists.specs.Held.{idle_slot, idle_made, held}
use Rattle.slot_lists.proofs.Standing.{held_none}
use Rattle.slot_lists.proofs.idle_slots.IdleSlots.open.Goals as goal

pub returns : goal.returns
returns g c =
    let W = Waiting g.row.C.Denot in
    let slots = c.new-slots.result.slots in
    let n = held_none idle_slot idle_made slots in
    let seen : Recent ℕ (Idle) → Recent ℕ W = λ l. record {
      room = l.room;
      entries = held idle_slot idle_made slots l.entries;
    } in
    ap seen c.in_ok-list.ensures
    ∙ ap (λ (ws : List (ℕ × W)). record { room = c.args.room; entries = ws }) n
