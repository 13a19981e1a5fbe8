use Rattle.std.proofs.Common.{◌≡◌, ℕ, Option, None, Some, nat_eq, sym, ◌∙◌, ap, subst, refl}
use Rattle.std.specs.Prelude.{IsSome}
use Rattle.std.specs.Map.{lookup}
use Rattle.std.proofs.lemmas.Option.{IfSome_then}
use Rattle.slab.specs.Slab.{Slab, get}
use Rattle.cache_lists.specs.Recent.{Recent}
use Rattle.slot_lists.specs.Held.{held, AreHeld, layer_slot, layer_made}
use Rattle.slot_lists.proofs.Standing.{map_same}
use Rattle.slot_lists.proofs.Changing.{taken_value, missed_value}
use Rattle.slot_lists.proofs.Deploying.{if_some_same, if_some_there, whole, after_done}
use Rattle.slot_lists.proofs.Deploying.{after_refused}
use Rattle.slot_lists.proofs.Deploying.{done_holds, refused_holds}
use Rattle.slot_lists.proofs.layer_slots.LayerSlots.deploy.Goals as goal

-- what is looked up is what stands under the slot
looked : {L : Type 0} (list : Recent ℕ ℕ) (slab : Slab L) (now : Recent ℕ L) (k slot : ℕ)
    → AreHeld layer_slot slab.slots list.entries → Some slot ≡ lookup (nat_eq k) list.entries
    → whole list.room (held layer_slot layer_made slab.slots list.entries) ≡ now
    → lookup (nat_eq k) now.entries ≡ get slab slot
looked {L = L} list slab now k slot h l view =
    let test = nat_eq k in
    let es = list.entries in
    ap (λ (s : Recent ℕ L). lookup test s.entries) (sym view)
    ∙ (sym (map_same (lookup test (held layer_slot layer_made slab.slots es)))
    ∙ taken_value layer_slot layer_made slab.slots test es (lookup test es) slot
    (λ (w : L). w) (λ e v. refl) refl (map_same (lookup test es) ∙ sym l) h.found)

none_there : {L : Type 0} (o : Option L) → o ≡ None → IsSome o → ⊥
none_there None e h = cc
none_there (Some x) e h = cc

pub unreachable-requires : goal.unreachable-requires
unreachable-requires g c =
    let test = nat_eq c.args.k in
    let es = c.self.inside.list.entries in
    let w = missed_value layer_slot layer_made c.self.inside.slots.slots test es (lookup test es)
    refl
    (map_same (lookup test es) ∙ sym c.in_default.ensures) c.self.invariant.found in
    none_there (lookup test c.args.self.now.entries)
    (ap (λ (s : Recent ℕ g.row.L.Denot). lookup test s.entries) (sym c.self.view_is) ∙ w)
    c.requires.there

pub deploy_at-requires-clause-there : goal.deploy_at-requires-clause-there
deploy_at-requires-clause-there g c κs within =
    let list = c.self.inside.list in
    let slab = c.self.inside.slots in
    let now = c.args.self.now in
    let slot = c.in-Some.slot in
    let e = looked list slab now c.args.k slot c.self.invariant c.in-Some.ensures c.self.view_is in
    subst (λ (o : Option g.row.L.Denot). IsSome o) e c.requires.there

pub deploy_at-requires-clause-loose : goal.deploy_at-requires-clause-loose
deploy_at-requires-clause-loose g c κs within =
    let list = c.self.inside.list in
    let slab = c.self.inside.slots in
    let now = c.args.self.now in
    let slot = c.in-Some.slot in
    let e = looked list slab now c.args.k slot c.self.invariant c.in-Some.ensures c.self.view_is in
    if_some_same _ _ _ (sym e) c.requires.loose

pub invariant_of-self : goal.invariant_of-self
invariant_of-self g c =
    let list = c.self.inside.list in
    let slab = c.self.inside.slots in
    let now = c.args.self.now in
    let slot = c.in-Some.slot in
    let e = looked list slab now c.args.k slot c.self.invariant c.in-Some.ensures c.self.view_is in
    let there : IsSome (get slab slot) =
    subst (λ (o : Option g.row.L.Denot). IsSome o) e c.requires.there in
    if_some_there (get slab slot) _ there (IfSome_then (get slab slot) c.deploy_at.ensures.layers
    (λ layer p. done_holds list slab c.deploy_at.new.slots now c.args.k slot p.0
    there (sym c.in-Some.ensures) c.self.invariant c.self.view_is p.3
    c.touch.new.self c.touch.ensures.touched))

pub invariant_of-self-in-Err : goal.invariant_of-self-in-Err
invariant_of-self-in-Err g c =
    let list = c.self.inside.list in
    let slab = c.self.inside.slots in
    let now = c.args.self.now in
    let slot = c.in-Some.slot in
    let e = looked list slab now c.args.k slot c.self.invariant c.in-Some.ensures c.self.view_is in
    let there : IsSome (get slab slot) =
    subst (λ (o : Option g.row.L.Denot). IsSome o) e c.requires.there in
    if_some_there (get slab slot) _ there (IfSome_then (get slab slot) c.deploy_at.ensures.layers
    (λ layer p. refused_holds list slab c.deploy_at.new.slots now c.args.k slot p.0
    there (sym c.in-Some.ensures) c.self.invariant c.self.view_is p.3))

pub returns-in-Ok-clause-space : goal.returns-in-Ok-clause-space
returns-in-Ok-clause-space g c =
    let list = c.self.inside.list in
    let slab = c.self.inside.slots in
    let now = c.args.self.now in
    let slot = c.in-Some.slot in
    let e = looked list slab now c.args.k slot c.self.invariant c.in-Some.ensures c.self.view_is in
    if_some_same _ _ _ e c.in-Ok.ensures.space

pub returns-in-Ok-clause-holds : goal.returns-in-Ok-clause-holds
returns-in-Ok-clause-holds g c =
    let list = c.self.inside.list in
    let slab = c.self.inside.slots in
    let now = c.args.self.now in
    let slot = c.in-Some.slot in
    let e = looked list slab now c.args.k slot c.self.invariant c.in-Some.ensures c.self.view_is in
    if_some_same _ _ _ e c.in-Ok.ensures.holds

pub returns-in-Ok-clause-layers : goal.returns-in-Ok-clause-layers
returns-in-Ok-clause-layers g c =
    let list = c.self.inside.list in
    let slab = c.self.inside.slots in
    let now = c.args.self.now in
    let slot = c.in-Some.slot in
    let e = looked list slab now c.args.k slot c.self.invariant c.in-Some.ensures c.self.view_is in
    let there : IsSome (get slab slot) =
    subst (λ (o : Option g.row.L.Denot). IsSome o) e c.requires.there in
    if_some_same _ _ _ e (IfSome_then (get slab slot) c.deploy_at.ensures.layers
    (λ layer p. (
      p.0,
      p.1,
      p.2,
      after_done list slab c.deploy_at.new.slots now c.args.k slot p.0
          there (sym c.in-Some.ensures) c.self.invariant c.self.view_is p.3
          c.touch.new.self c.touch.ensures.touched,
    )))

pub returns-in-Err-clause-layers : goal.returns-in-Err-clause-layers
returns-in-Err-clause-layers g c =
    let list = c.self.inside.list in
    let slab = c.self.inside.slots in
    let now = c.args.self.now in
    let slot = c.in-Some.slot in
    let e = looked list slab now c.args.k slot c.self.invariant c.in-Some.ensures c.self.view_is in
    let there : IsSome (get slab slot) =
    subst (λ (o : Option g.row.L.Denot). IsSome o) e c.requires.there in
    if_some_same _ _ _ e (IfSome_then (get slab slot) c.deploy_at.ensures.layers
    (λ layer p. (
      p.0,
      p.1,
      p.2,
      after_refused list slab c.deploy_at.new.slots now c.args.k slot p.0
          there (sym c.in-Some.ensures) c.self.invariant c.self.view_is p.3,
    )))
