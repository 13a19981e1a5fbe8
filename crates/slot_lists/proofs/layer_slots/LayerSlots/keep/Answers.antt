use Rattle.std.proofs.Common.{◌≡◌, ◌<◌, ◌-◌, ℕ, List, ◌∷◌, take, Option, None, Some, option_map}
use Rattle.std.proofs.Common.{nat_eq}
use Rattle.std.proofs.Common.{sym, ◌∙◌, ap, subst}
use Rattle.std.specs.Map.{lookup}
use Rattle.slab.specs.Slab.{Slab, get, Updates}
use Rattle.cache_lists.specs.Recent.{Recent, pushed_out, with_first}
use Rattle.slot_lists.specs.Held.{held, AreHeld, layer_slot, layer_made}
use Rattle.slot_lists.proofs.Standing.{map_same}
use Rattle.slot_lists.proofs.Changing.{Holds, put_within, put_full, lost_value, none_lost, named}
use Rattle.slot_lists.proofs.Changing.{absent_entry}
use Rattle.slot_lists.proofs.layer_slots.LayerSlots.keep.Given as given
use Rattle.slot_lists.proofs.layer_slots.LayerSlots.keep.Goals as goal

-- the list with these entries
abbrev whole : {W : Type 0} → ℕ → List (ℕ × W) → Recent ℕ W
whole room ws = record { room = room; entries = ws }

pub keep-requires-clause-absent : goal.keep-requires-clause-absent
keep-requires-clause-absent g c =
    absent_entry layer_slot layer_made c.self.inside.slots.slots (nat_eq c.args.k)
    c.self.inside.list.entries
    c.self.invariant.found
    (subst (λ (s : Recent ℕ g.row.L.Denot). lookup (nat_eq c.args.k) s.entries ≡ None)
    (sym c.self.view_is)
    c.requires.absent)

view-None : (g : given.Over) (c : goal.After-insert_reserved g)
    → whole c.self.inside.list.room
    (held layer_slot layer_made c.reserve.new.self.slots c.self.inside.list.entries)
    ≡ c.args.self.now
view-None g c =
    ap (λ xs. whole c.self.inside.list.room
    (held layer_slot layer_made xs c.self.inside.list.entries))
    (ap (λ (s : Slab g.row.L.Denot). s.slots) c.reserve.ensures.rest_kept) ∙ c.self.view_is

put-None : (g : given.Over) (c : goal.After-insert_reserved g)
    → Holds layer_slot layer_made c.insert_reserved.new.self.slots
    ((c.args.k, c.vacant_key.result)
    ∷ take (c.self.inside.list.room - 1) c.self.inside.list.entries)
    ((c.args.k, c.args.layer) ∷ take (c.self.inside.list.room - 1)
    (held layer_slot layer_made c.reserve.new.self.slots c.self.inside.list.entries))
put-None g c =
    let a = c.reserve.new.self in
    let b = c.insert_reserved.new.self in
    let list = c.self.inside.list in
    let es = list.entries in
    let same : a.slots ≡ c.self.inside.slots.slots =
    ap (λ (s : Slab g.row.L.Denot). s.slots) c.reserve.ensures.rest_kept in
    let h : AreHeld layer_slot a.slots es =
    subst (λ xs. AreHeld layer_slot xs es) (sym same) c.self.invariant in
    let room : 0 < list.room = subst (λ (s : Recent ℕ g.row.L.Denot). 0 < s.room)
    (sym c.self.view_is) c.requires.room in
    let u : Updates a b c.vacant_key.result (Some c.args.layer) =
    subst (λ n. Updates a b n (Some c.args.layer))
    (c.insert_reserved.ensures.key ∙ sym c.vacant_key.ensures.value)
    c.insert_reserved.ensures.updates in
    let none : pushed_out list ≡ None =
    sym c.in-Ok-None.ensures.lost ∙ c.in-Ok-None.field-0-is in
    put_within layer_slot layer_made a b list.room es c.args.k c.vacant_key.result c.args.layer room
    c.is_sound.ensures.within none h
    c.vacant_key.ensures.vacant u c.insert_reserved.ensures.len

pub invariant_of-self-in-Ok-None : goal.invariant_of-self-in-Ok-None
invariant_of-self-in-Ok-None g c =
    subst (λ (l : Recent ℕ ℕ). AreHeld layer_slot c.insert_reserved.new.self.slots l.entries)
    (sym c.in-Ok-None.ensures.kept) (put-None g c).stand

pub returns-in-Ok-None-clause-lost : goal.returns-in-Ok-None-clause-lost
returns-in-Ok-None-clause-lost g c =
    let list = c.self.inside.list in
    let same : c.reserve.new.self.slots ≡ c.self.inside.slots.slots =
    ap (λ (s : Slab g.row.L.Denot). s.slots) c.reserve.ensures.rest_kept in
    let none : pushed_out list ≡ None =
    sym c.in-Ok-None.ensures.lost ∙ c.in-Ok-None.field-0-is in
    let w = none_lost layer_slot layer_made c.self.inside.slots.slots list.room list.entries none
    c.self.invariant.found in
    sym w ∙ ap (λ (s : Recent ℕ g.row.L.Denot). pushed_out s) c.self.view_is

pub returns-in-Ok-None-clause-kept : goal.returns-in-Ok-None-clause-kept
returns-in-Ok-None-clause-kept g c =
    let seen : Recent ℕ ℕ → Recent ℕ g.row.L.Denot = λ l. record {
      room = l.room;
      entries = held layer_slot layer_made c.insert_reserved.new.self.slots l.entries;
    } in
    ap seen c.in-Ok-None.ensures.kept
    ∙ (ap (λ (ws : List (ℕ × g.row.L.Denot)). whole c.self.inside.list.room ws) (put-None g c).seen
    ∙ ap (λ (s : Recent ℕ g.row.L.Denot). with_first c.args.k c.args.layer s) (view-None g c))

view-Some : (g : given.Over) (c : goal.After-numbered g)
    → whole c.self.inside.list.room
    (held layer_slot layer_made c.reserve.new.self.slots c.self.inside.list.entries)
    ≡ c.args.self.now
view-Some g c =
    ap (λ xs. whole c.self.inside.list.room
    (held layer_slot layer_made xs c.self.inside.list.entries))
    (ap (λ (s : Slab g.row.L.Denot). s.slots) c.reserve.ensures.rest_kept) ∙ c.self.view_is

put-Some : (g : given.Over) (c : goal.After-numbered g)
    → Holds layer_slot layer_made c.try_remove-lost.new.self.slots
    ((c.args.k, c.vacant_key.result)
    ∷ take (c.self.inside.list.room - 1) c.self.inside.list.entries)
    ((c.args.k, c.args.layer) ∷ take (c.self.inside.list.room - 1)
    (held layer_slot layer_made c.reserve.new.self.slots c.self.inside.list.entries))
put-Some g c =
    let a = c.reserve.new.self in
    let b = c.insert_reserved-in-Ok-Some.new.self in
    let list = c.self.inside.list in
    let es = list.entries in
    let same : a.slots ≡ c.self.inside.slots.slots =
    ap (λ (s : Slab g.row.L.Denot). s.slots) c.reserve.ensures.rest_kept in
    let h : AreHeld layer_slot a.slots es =
    subst (λ xs. AreHeld layer_slot xs es) (sym same) c.self.invariant in
    let room : 0 < list.room = subst (λ (s : Recent ℕ g.row.L.Denot). 0 < s.room)
    (sym c.self.view_is) c.requires.room in
    let u : Updates a b c.vacant_key.result (Some c.args.layer) =
    subst (λ n. Updates a b n (Some c.args.layer))
    (c.insert_reserved-in-Ok-Some.ensures.key ∙ sym c.vacant_key.ensures.value)
    c.insert_reserved-in-Ok-Some.ensures.updates in
    let n = named layer_slot (pushed_out list) c.in-Ok-Some.last c.in-Ok-Some.slot
    (map_same (pushed_out list) ∙ (sym c.in-Ok-Some.ensures.lost ∙ c.in-Ok-Some.field-0-is)) in
    put_full layer_slot layer_made a b c.try_remove-lost.new.self list.room es c.args.k
    c.vacant_key.result c.args.layer n.0
    c.try_remove-lost.result room n.1 h c.vacant_key.ensures.vacant u
    c.insert_reserved-in-Ok-Some.ensures.len
    (c.try_remove-lost.ensures.value ∙ ap (λ m. get b m) (sym n.3))
    (subst (λ m. Updates b c.try_remove-lost.new.self m None) (sym n.3)
    c.try_remove-lost.ensures.updates)
    c.try_remove-lost.ensures.len

pub invariant_of-self-in-Ok-Some : goal.invariant_of-self-in-Ok-Some
invariant_of-self-in-Ok-Some g c =
    subst (λ (l : Recent ℕ ℕ). AreHeld layer_slot c.try_remove-lost.new.self.slots l.entries)
    (sym c.in-Ok-Some.ensures.kept) (put-Some g c).stand

pub returns-in-Ok-Some-clause-lost : goal.returns-in-Ok-Some-clause-lost
returns-in-Ok-Some-clause-lost g c =
    let a = c.reserve.new.self in
    let b = c.insert_reserved-in-Ok-Some.new.self in
    let list = c.self.inside.list in
    let es = list.entries in
    let same : a.slots ≡ c.self.inside.slots.slots =
    ap (λ (s : Slab g.row.L.Denot). s.slots) c.reserve.ensures.rest_kept in
    let h : AreHeld layer_slot a.slots es =
    subst (λ xs. AreHeld layer_slot xs es) (sym same) c.self.invariant in
    let room : 0 < list.room = subst (λ (s : Recent ℕ g.row.L.Denot). 0 < s.room)
    (sym c.self.view_is) c.requires.room in
    let u : Updates a b c.vacant_key.result (Some c.args.layer) =
    subst (λ n. Updates a b n (Some c.args.layer))
    (c.insert_reserved-in-Ok-Some.ensures.key ∙ sym c.vacant_key.ensures.value)
    c.insert_reserved-in-Ok-Some.ensures.updates in
    let n = named layer_slot (pushed_out list) c.in-Ok-Some.last c.in-Ok-Some.slot
    (map_same (pushed_out list) ∙ (sym c.in-Ok-Some.ensures.lost ∙ c.in-Ok-Some.field-0-is)) in
    let w = lost_value layer_slot layer_made a b list.room es c.vacant_key.result c.args.layer n.0
    n.1 h c.vacant_key.ensures.vacant u in
    let told = c.numbered.ensures
    ∙ (ap (λ (o : Option g.row.L.Denot). option_map (λ y. (c.in-Ok-Some.last, y)) o)
    c.try_remove-lost.ensures.value
    ∙ (ap (λ m. option_map (λ y. (c.in-Ok-Some.last, y)) (get b m)) (sym n.3)
    ∙ ap (λ m. option_map (λ y. (m, y)) (get b (layer_slot n.0.1))) (sym n.2))) in
    told ∙ (sym w ∙ ap (λ (s : Recent ℕ g.row.L.Denot). pushed_out s) (view-Some g c))

pub returns-in-Ok-Some-clause-kept : goal.returns-in-Ok-Some-clause-kept
returns-in-Ok-Some-clause-kept g c =
    let seen : Recent ℕ ℕ → Recent ℕ g.row.L.Denot = λ l. record {
      room = l.room;
      entries = held layer_slot layer_made c.try_remove-lost.new.self.slots l.entries;
    } in
    ap seen c.in-Ok-Some.ensures.kept
    ∙ (ap (λ (ws : List (ℕ × g.row.L.Denot)). whole c.self.inside.list.room ws) (put-Some g c).seen
    ∙ ap (λ (s : Recent ℕ g.row.L.Denot). with_first c.args.k c.args.layer s) (view-Some g c))
