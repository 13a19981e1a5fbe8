use Rattle.std.proofs.Common.{ℕ, sym, ◌∙◌, ap}
use Rattle.cache_lists.specs.Recent.{Recent}
use Rattle.slot_lists.specs.Lists.{Waiting, first_waiting}
use Rattle.slot_lists.proofs.Waits.{held_first}
use Rattle.slot_lists.proofs.idle_slots.IdleSlots.find.Goals as goal

pub returns : goal.returns
returns g c =
    let f = c.args.function in
    let es = c.self.inside.list.entries in
    c.find.ensures
    ∙ sym (held_first f c.self.inside.slots.slots es c.self.invariant.found)
    ∙ ap (λ (s : Recent ℕ (Waiting g.row.C.Denot)). first_waiting f s.entries) c.self.view_is
