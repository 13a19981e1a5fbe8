use Rattle.std.proofs.Common.{◌≡◌, ◌<◌, ◌-◌, ℕ, List, ◌∷◌, take, Option, None, Some, option_map}
use Rattle.std.proofs.Common.{nat_eq}
use Rattle.std.proofs.Common.{sym, ◌∙◌, ap, subst, refl}
use Rattle.std.specs.Map.{lookup}
use Rattle.slab.specs.Slab.{Slab, get, Updates}
use Rattle.cache_lists.specs.Recent.{Recent, pushed_out, with_first}
use Rattle.cache_lists.specs.declared.idle_list.IdleContext.{IdleContext as Idle}
use Rattle.slot_lists.specs.Lists.{Waiting, context_of, waiting_of}
use Rattle.slot_lists.specs.Held.{held, AreHeld, idle_slot, idle_made}
use Rattle.slot_lists.proofs.Changing.{Holds, put_within, put_full, lost_value, none_lost, named}
use Rattle.slot_lists.proofs.Changing.{map_none}
use Rattle.slot_lists.proofs.Changing.{absent_entry}
use Rattle.slot_lists.proofs.idle_slots.IdleSlots.park.Given as given
use Rattle.slot_lists.proofs.idle_slots.IdleSlots.park.Goals as goal

-- the list with these entries
abbrev whole : {W : Type 0} → ℕ → List (ℕ × W) → Recent ℕ W
whole room ws = record { room = room; entries = ws }

told_again : {C : Type 0} (key : ℕ) (e : Idle) (o : Option C)
    → option_map context_of (option_map (λ (y : C). (key, idle_made e y)) o)
    ≡ option_map (λ (y : C). (key, y)) o
told_again key e None = refl
told_again key e (Some y) = refl

pub park-requires-clause-absent : goal.park-requires-clause-absent
park-requires-clause-absent g c =
    absent_entry idle_slot idle_made c.self.inside.slots.slots (nat_eq c.args.id)
    c.self.inside.list.entries
    c.self.invariant.found
    (subst (λ (s : Recent ℕ (Waiting g.row.C.Denot)). lookup (nat_eq c.args.id) s.entries ≡ None)
    (sym c.self.view_is)
    c.requires.absent)

view-None : (g : given.Over) (c : goal.After-insert_reserved g)
    → whole c.self.inside.list.room
    (held idle_slot idle_made c.reserve.new.self.slots c.self.inside.list.entries)
    ≡ c.args.self.now
view-None g c =
    ap (λ xs. whole c.self.inside.list.room
    (held idle_slot idle_made xs c.self.inside.list.entries))
    (ap (λ (s : Slab g.row.C.Denot). s.slots) c.reserve.ensures.rest_kept) ∙ c.self.view_is

put-None : (g : given.Over) (c : goal.After-insert_reserved g)
    → Holds idle_slot idle_made c.insert_reserved.new.self.slots
    ((c.args.id, (record { function = c.args.function; slot = c.vacant_key.result }))
    ∷ take (c.self.inside.list.room - 1) c.self.inside.list.entries)
    ((c.args.id, (waiting_of c.args.function c.args.context)) ∷ take (c.self.inside.list.room - 1)
    (held idle_slot idle_made c.reserve.new.self.slots c.self.inside.list.entries))
put-None g c =
    let a = c.reserve.new.self in
    let b = c.insert_reserved.new.self in
    let list = c.self.inside.list in
    let es = list.entries in
    let same : a.slots ≡ c.self.inside.slots.slots =
    ap (λ (s : Slab g.row.C.Denot). s.slots) c.reserve.ensures.rest_kept in
    let h : AreHeld idle_slot a.slots es =
    subst (λ xs. AreHeld idle_slot xs es) (sym same) c.self.invariant in
    let room : 0 < list.room = subst (λ (s : Recent ℕ (Waiting g.row.C.Denot)). 0 < s.room)
    (sym c.self.view_is) c.requires.room in
    let u : Updates a b c.vacant_key.result (Some c.args.context) =
    subst (λ n. Updates a b n (Some c.args.context))
    (c.insert_reserved.ensures.key ∙ sym c.vacant_key.ensures.value)
    c.insert_reserved.ensures.updates in
    let none : pushed_out list ≡ None =
    map_none (λ (e : ℕ × Idle). (e.0, e.1.slot)) (pushed_out list)
    (sym c.in-Ok-None.ensures.lost ∙ c.in-Ok-None.field-0-is) in
    put_within idle_slot idle_made a b list.room es c.args.id
    (record { function = c.args.function; slot = c.vacant_key.result }) c.args.context room
    c.is_sound.ensures.within none h
    c.vacant_key.ensures.vacant u c.insert_reserved.ensures.len

pub invariant_of-self-in-Ok-None : goal.invariant_of-self-in-Ok-None
invariant_of-self-in-Ok-None g c =
    subst (λ (l : Recent ℕ Idle). AreHeld idle_slot c.insert_reserved.new.self.slots l.entries)
    (sym c.in-Ok-None.ensures.parked) (put-None g c).stand

pub returns-in-Ok-None-clause-lost : goal.returns-in-Ok-None-clause-lost
returns-in-Ok-None-clause-lost g c =
    let list = c.self.inside.list in
    let same : c.reserve.new.self.slots ≡ c.self.inside.slots.slots =
    ap (λ (s : Slab g.row.C.Denot). s.slots) c.reserve.ensures.rest_kept in
    let none : pushed_out list ≡ None =
    map_none (λ (e : ℕ × Idle). (e.0, e.1.slot)) (pushed_out list)
    (sym c.in-Ok-None.ensures.lost ∙ c.in-Ok-None.field-0-is) in
    let w = none_lost idle_slot idle_made c.self.inside.slots.slots list.room list.entries none
    c.self.invariant.found in
    ap (λ (o : Option (ℕ × (Waiting g.row.C.Denot))). option_map context_of o) (sym w)
    ∙ ap (λ (s : Recent ℕ (Waiting g.row.C.Denot)). option_map context_of (pushed_out s))
    c.self.view_is

pub returns-in-Ok-None-clause-parked : goal.returns-in-Ok-None-clause-parked
returns-in-Ok-None-clause-parked g c =
    let seen : Recent ℕ Idle → Recent ℕ (Waiting g.row.C.Denot) = λ l. record {
      room = l.room;
      entries = held idle_slot idle_made c.insert_reserved.new.self.slots l.entries;
    } in
    ap seen c.in-Ok-None.ensures.parked
    ∙ (ap (λ (ws : List (ℕ × (Waiting g.row.C.Denot))). whole c.self.inside.list.room ws)
    (put-None g c).seen
    ∙ ap (λ (s : Recent ℕ (Waiting g.row.C.Denot)). with_first c.args.id
    (waiting_of c.args.function c.args.context) s) (view-None g c))

view-Some : (g : given.Over) (c : goal.After-numbered g)
    → whole c.self.inside.list.room
    (held idle_slot idle_made c.reserve.new.self.slots c.self.inside.list.entries)
    ≡ c.args.self.now
view-Some g c =
    ap (λ xs. whole c.self.inside.list.room
    (held idle_slot idle_made xs c.self.inside.list.entries))
    (ap (λ (s : Slab g.row.C.Denot). s.slots) c.reserve.ensures.rest_kept) ∙ c.self.view_is

put-Some : (g : given.Over) (c : goal.After-numbered g)
    → Holds idle_slot idle_made c.try_remove-lost.new.self.slots
    ((c.args.id, (record { function = c.args.function; slot = c.vacant_key.result }))
    ∷ take (c.self.inside.list.room - 1) c.self.inside.list.entries)
    ((c.args.id, (waiting_of c.args.function c.args.context)) ∷ take (c.self.inside.list.room - 1)
    (held idle_slot idle_made c.reserve.new.self.slots c.self.inside.list.entries))
put-Some g c =
    let a = c.reserve.new.self in
    let b = c.insert_reserved-in-Ok-Some.new.self in
    let list = c.self.inside.list in
    let es = list.entries in
    let same : a.slots ≡ c.self.inside.slots.slots =
    ap (λ (s : Slab g.row.C.Denot). s.slots) c.reserve.ensures.rest_kept in
    let h : AreHeld idle_slot a.slots es =
    subst (λ xs. AreHeld idle_slot xs es) (sym same) c.self.invariant in
    let room : 0 < list.room = subst (λ (s : Recent ℕ (Waiting g.row.C.Denot)). 0 < s.room)
    (sym c.self.view_is) c.requires.room in
    let u : Updates a b c.vacant_key.result (Some c.args.context) =
    subst (λ n. Updates a b n (Some c.args.context))
    (c.insert_reserved-in-Ok-Some.ensures.key ∙ sym c.vacant_key.ensures.value)
    c.insert_reserved-in-Ok-Some.ensures.updates in
    let n = named idle_slot (pushed_out list) c.in-Ok-Some.last c.in-Ok-Some.slot
    (sym c.in-Ok-Some.ensures.lost ∙ c.in-Ok-Some.field-0-is) in
    put_full idle_slot idle_made a b c.try_remove-lost.new.self list.room es c.args.id
    (record { function = c.args.function; slot = c.vacant_key.result }) c.args.context n.0
    c.try_remove-lost.result room n.1 h c.vacant_key.ensures.vacant u
    c.insert_reserved-in-Ok-Some.ensures.len
    (c.try_remove-lost.ensures.value ∙ ap (λ m. get b m) (sym n.3))
    (subst (λ m. Updates b c.try_remove-lost.new.self m None) (sym n.3)
    c.try_remove-lost.ensures.updates)
    c.try_remove-lost.ensures.len

pub invariant_of-self-in-Ok-Some : goal.invariant_of-self-in-Ok-Some
invariant_of-self-in-Ok-Some g c =
    subst (λ (l : Recent ℕ Idle). AreHeld idle_slot c.try_remove-lost.new.self.slots l.entries)
    (sym c.in-Ok-Some.ensures.parked) (put-Some g c).stand

pub returns-in-Ok-Some-clause-lost : goal.returns-in-Ok-Some-clause-lost
returns-in-Ok-Some-clause-lost g c =
    let a = c.reserve.new.self in
    let b = c.insert_reserved-in-Ok-Some.new.self in
    let list = c.self.inside.list in
    let es = list.entries in
    let same : a.slots ≡ c.self.inside.slots.slots =
    ap (λ (s : Slab g.row.C.Denot). s.slots) c.reserve.ensures.rest_kept in
    let h : AreHeld idle_slot a.slots es =
    subst (λ xs. AreHeld idle_slot xs es) (sym same) c.self.invariant in
    let room : 0 < list.room = subst (λ (s : Recent ℕ (Waiting g.row.C.Denot)). 0 < s.room)
    (sym c.self.view_is) c.requires.room in
    let u : Updates a b c.vacant_key.result (Some c.args.context) =
    subst (λ n. Updates a b n (Some c.args.context))
    (c.insert_reserved-in-Ok-Some.ensures.key ∙ sym c.vacant_key.ensures.value)
    c.insert_reserved-in-Ok-Some.ensures.updates in
    let n = named idle_slot (pushed_out list) c.in-Ok-Some.last c.in-Ok-Some.slot
    (sym c.in-Ok-Some.ensures.lost ∙ c.in-Ok-Some.field-0-is) in
    let w = lost_value idle_slot idle_made a b list.room es
    (record { function = c.args.function; slot = c.vacant_key.result }) c.args.context n.0 n.1 h
    c.vacant_key.ensures.vacant u in
    let told = c.numbered.ensures
    ∙ (ap (λ (o : Option g.row.C.Denot). option_map (λ y. (c.in-Ok-Some.last, y)) o)
    c.try_remove-lost.ensures.value
    ∙ (ap (λ m. option_map (λ y. (c.in-Ok-Some.last, y)) (get b m)) (sym n.3)
    ∙ ap (λ m. option_map (λ y. (m, y)) (get b (idle_slot n.0.1))) (sym n.2))) in
    told ∙ (sym (told_again n.0.0 n.0.1 (get b (idle_slot n.0.1)))
    ∙ (ap (λ (o : Option (ℕ × (Waiting g.row.C.Denot))). option_map context_of o) (sym w)
    ∙ ap (λ (s : Recent ℕ (Waiting g.row.C.Denot)). option_map context_of (pushed_out s))
    (view-Some g c)))

pub returns-in-Ok-Some-clause-parked : goal.returns-in-Ok-Some-clause-parked
returns-in-Ok-Some-clause-parked g c =
    let seen : Recent ℕ Idle → Recent ℕ (Waiting g.row.C.Denot) = λ l. record {
      room = l.room;
      entries = held idle_slot idle_made c.try_remove-lost.new.self.slots l.entries;
    } in
    ap seen c.in-Ok-Some.ensures.parked
    ∙ (ap (λ (ws : List (ℕ × (Waiting g.row.C.Denot))). whole c.self.inside.list.room ws)
    (put-Some g c).seen
    ∙ ap (λ (s : Recent ℕ (Waiting g.row.C.Denot)). with_first c.args.id
    (waiting_of c.args.function c.args.context) s) (view-Some g c))
