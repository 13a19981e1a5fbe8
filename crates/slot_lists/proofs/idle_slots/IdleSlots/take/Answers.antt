use Rattle.std.proofs.Common.{ℕ, List, Option, option_map, nat_eq, sym, ◌∙◌, ap, subst, refl}
use Rattle.std.specs.Map.{lookup, remove_entry}
use Rattle.cache_lists.specs.Recent.{Recent, with_entries}
use Rattle.cache_lists.specs.declared.idle_list.IdleContext.{IdleContext as Idle}
use Rattle.slot_lists.specs.Lists.{Waiting}
use Rattle.slot_lists.specs.Held.{held, AreHeld, idle_slot, idle_made}
use Rattle.slot_lists.proofs.Changing.{taken, missed, taken_value, missed_value}
use Rattle.slot_lists.proofs.idle_slots.IdleSlots.take.Goals as goal

pub invariant_of-self : goal.invariant_of-self
invariant_of-self g c =
    let test = nat_eq c.args.id in
    let es = c.self.inside.list.entries in
    let t = taken idle_slot idle_made c.self.inside.slots c.try_remove.new.self test es
    (lookup test es)
    c.in-Some.slot c.try_remove.result refl (sym c.in-Some.ensures.slot) c.self.invariant
    c.try_remove.ensures.value c.try_remove.ensures.updates c.try_remove.ensures.len in
    subst (λ (l : Recent ℕ Idle). AreHeld idle_slot c.try_remove.new.self.slots l.entries)
    (sym c.remove.ensures.removed) t.stand

pub invariant_of-self-in-None : goal.invariant_of-self-in-None
invariant_of-self-in-None g c =
    let test = nat_eq c.args.id in
    let es = c.self.inside.list.entries in
    let t = missed idle_slot idle_made c.self.inside.slots.slots test es (lookup test es) refl
    (sym c.in-None.ensures.slot) c.self.invariant in
    subst (λ (l : Recent ℕ Idle). AreHeld idle_slot c.self.inside.slots.slots l.entries)
    (sym c.remove.ensures.removed) t.stand

pub returns-in-Some-clause-taken : goal.returns-in-Some-clause-taken
returns-in-Some-clause-taken g c =
    let test = nat_eq c.args.id in
    let es = c.self.inside.list.entries in
    let w = taken_value idle_slot idle_made c.self.inside.slots.slots test es (lookup test es)
    c.in-Some.slot
    (λ (w : Waiting g.row.C.Denot). w.context) (λ e v. refl) refl (sym c.in-Some.ensures.slot)
    c.self.invariant.found in
    c.try_remove.ensures.value ∙ (sym w
    ∙ ap (λ (s : Recent ℕ (Waiting g.row.C.Denot)). option_map (λ e. e.context)
    (lookup test s.entries))
    c.self.view_is)

pub returns-in-Some-clause-rest : goal.returns-in-Some-clause-rest
returns-in-Some-clause-rest g c =
    let test = nat_eq c.args.id in
    let es = c.self.inside.list.entries in
    let t = taken idle_slot idle_made c.self.inside.slots c.try_remove.new.self test es
    (lookup test es)
    c.in-Some.slot c.try_remove.result refl (sym c.in-Some.ensures.slot) c.self.invariant
    c.try_remove.ensures.value c.try_remove.ensures.updates c.try_remove.ensures.len in
    let seen : Recent ℕ Idle → Recent ℕ (Waiting g.row.C.Denot) = λ l. record {
      room = l.room;
      entries = held idle_slot idle_made c.try_remove.new.self.slots l.entries;
    } in
    let room = c.self.inside.list.room in
    let whole : List (ℕ × (Waiting g.row.C.Denot)) → Recent ℕ (Waiting g.row.C.Denot) =
    λ ws. record { room = room; entries = ws } in
    ap seen c.remove.ensures.removed ∙ (ap whole t.seen
    ∙ ap (λ (s : Recent ℕ (Waiting g.row.C.Denot)). with_entries (remove_entry test s.entries) s)
    c.self.view_is)

pub returns-in-None-clause-taken : goal.returns-in-None-clause-taken
returns-in-None-clause-taken g c =
    let test = nat_eq c.args.id in
    let es = c.self.inside.list.entries in
    let w = missed_value idle_slot idle_made c.self.inside.slots.slots test es (lookup test es) refl
    (sym c.in-None.ensures.slot) c.self.invariant.found in
    sym (ap (λ (o : Option (Waiting g.row.C.Denot)). option_map (λ e. e.context) o) w)
    ∙ ap (λ (s : Recent ℕ (Waiting g.row.C.Denot)). option_map (λ e. e.context)
    (lookup test s.entries))
    c.self.view_is

pub returns-in-None-clause-rest : goal.returns-in-None-clause-rest
returns-in-None-clause-rest g c =
    let test = nat_eq c.args.id in
    let es = c.self.inside.list.entries in
    let t = missed idle_slot idle_made c.self.inside.slots.slots test es (lookup test es) refl
    (sym c.in-None.ensures.slot) c.self.invariant in
    let seen : Recent ℕ Idle → Recent ℕ (Waiting g.row.C.Denot) = λ l. record {
      room = l.room;
      entries = held idle_slot idle_made c.self.inside.slots.slots l.entries;
    } in
    let room = c.self.inside.list.room in
    let whole : List (ℕ × (Waiting g.row.C.Denot)) → Recent ℕ (Waiting g.row.C.Denot) =
    λ ws. record { room = room; entries = ws } in
    ap seen c.remove.ensures.removed ∙ (ap whole t.seen
    ∙ ap (λ (s : Recent ℕ (Waiting g.row.C.Denot)). with_entries (remove_entry test s.entries) s)
    c.self.view_is)
