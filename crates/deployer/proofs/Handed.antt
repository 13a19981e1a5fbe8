-- What a book hands out is pinned by nobody.
use Rattle.std.proofs.Common.{◌≡◌, ℕ, zero, suc, ◌-◌, Bool, true, false, List, [], ◌∷◌, length}
use Rattle.std.proofs.Common.{Option, None, Some, IfSome, refl, sym, ◌∙◌, ap, subst, option_map}
use Rattle.std.proofs.Common.{◌==◌, if◌then◌else◌}
use Rattle.std.specs.List.{AllByRecursion, slice_get}
use Rattle.std.proofs.lemmas.Option.{none-some, same_Some}
use Rattle.cache_lists.specs.Recent.{Recent, pushed_out}
use Rattle.book_model.specs.Shared.{Shared}
use Rattle.book_model.specs.Kept.{IsLayerOf, IsWaiting}
use Rattle.book_model.specs.Steps.{Keeps, Parks, handed_layer, is_kept, kept_list, last_kept}
use Rattle.book_model.specs.Steps.{built_events, parked_events, idle_list, last_idle, used_before}
use Rattle.deployer.proofs.Going.{went_so}
use Rattle.service_model.specs.Going.{WentBy}
use Rattle.slot_lists.specs.Lists.{Waiting}
use Rattle.space_api.specs.Holding.{Pin, Stocked}
use Rattle.space_api.specs.Told.{KeptLayer, ParkedContext}

module _ {A : Type 0} (P : A → Type 0) where
  all_at : (xs : List A) (n : ℕ) (x : A) → AllByRecursion P xs → slice_get xs n ≡ Some x → P x
  all_at [] n x h e = absurd (none-some x e)
  all_at (y ∷ ys) zero x h e = subst P (same_Some y x e) h.0
  all_at (y ∷ ys) (suc n) x h e = all_at ys n x h.1 e

-- what is pushed out was there
module _ {V : Type 0} (P : ℕ × V → Type 0) where
  all_pushed : (list : Recent ℕ V) (e : ℕ × V) → AllByRecursion P list.entries →
      pushed_out list ≡ Some e → P e
  all_pushed list e h k = at (length list.entries == list.room) k where
    at : (b : Bool) → (if b then slice_get list.entries (length list.entries - 1) else None)
        ≡ Some e → P e
    at true q = all_at P list.entries (length list.entries - 1) e h q
    at false q = absurd (none-some e q)

  -- and so with a part of it
  pub all_handed : {U : Type 0} (f : V → U) (Q : U → Type 0) →
      ((e : ℕ × V) → P e → Q (f e.1)) → (list : Recent ℕ V) (x : U) →
      AllByRecursion P list.entries → option_map (λ (e : ℕ × V). f e.1) (pushed_out list) ≡ Some x →
      Q x
  all_handed f Q to list x h k = at (pushed_out list) (λ e q. all_pushed list e h q) k where
    at : (o : Option (ℕ × V)) → ((e : ℕ × V) → o ≡ Some e → P e) →
        option_map (λ (e : ℕ × V). f e.1) o ≡ Some x → Q x
    at None g q = absurd (none-some x q)
    at (Some e) g q = subst Q (same_Some (f e.1) x q) (to e (g e refl))

module _ {C L H : Type 0} (kept : L → KeptLayer) (pin : L → Option Pin)
    (is_layer : L → Type 0) where
  -- a layer that comes back from where layers are kept
  pub layer_loose : (c k d : ℕ) (layer last : L) (old new : Shared C L H) →
      AllByRecursion (λ (e : ℕ × L). is_layer e.1 × IsLayerOf e.0 (kept e.1) (pin e.1)) old.kept →
      pin layer ≡ None → Keeps c k d layer (Some last) old new → pin last ≡ None
  layer_loose c k d layer last old new all loose keeps =
      at (is_kept k old) (sym keeps.handed_is) where
        at : (twice : Bool) → handed_layer twice layer old ≡ Some last → pin last ≡ None
        at true q = ap pin (sym (same_Some layer last q)) ∙ loose
        at false q = all_handed (λ (e : ℕ × L). is_layer e.1 × IsLayerOf e.0 (kept e.1) (pin e.1))
            (λ (l : L). l) (λ (l : L). pin l ≡ None) (λ e p. p.1.loose) (kept_list old) last all q

module _ {C L H : Type 0} (parked : C → ParkedContext) (pin : C → Option Pin)
    (is_context : C → Type 0) where
  -- a context that comes back from where contexts are idle
  pub context_loose : (i n part : ℕ) (context last : C) (told : ParkedContext)
      (stocked : H → Stocked) (handed : Option C) (old new : Shared C L H) →
      AllByRecursion (λ (e : ℕ × Waiting C). is_context e.1.context
      × IsWaiting old.state old.started e.0 e.1.function (parked e.1.context) (pin e.1.context))
      old.idle → handed ≡ Some last → Parks i n part context told stocked handed old new →
      pin last ≡ None
  context_loose i n part context last told stocked handed old new all h parks =
      all_handed (λ (e : ℕ × Waiting C). is_context e.1.context
      × IsWaiting old.state old.started e.0 e.1.function (parked e.1.context) (pin e.1.context))
      (λ (w : Waiting C). w.context) (λ (x : C). pin x ≡ None) (λ e p. p.1.loose)
      (idle_list old) last all (sym parks.handed_is ∙ h)

module _ {C L H : Type 0} where
  -- a layer is kept by its events
  pub keeps_went : (c k d : ℕ) (layer : L) (handed : Option L) (old new : Shared C L H) →
      Keeps c k d layer handed old new →
      WentBy (built_events c k d (is_kept k old) (last_kept old)) old new
  keeps_went c k d layer handed old new keeps = record {
    sizes_stay = ap (λ (b : Shared C L H). b.sizes) keeps.new_is;
    started_stay = ap (λ (b : Shared C L H). b.started) keeps.new_is;
    legal = keeps.legal;
    events_are = ap (λ (b : Shared C L H). b.events) keeps.new_is;
  }

  -- a context is parked by its events
  pub parks_went : (i n part : ℕ) (context : C) (told : ParkedContext) (stocked : H → Stocked)
      (handed : Option C) (old new : Shared C L H) →
      Parks i n part context told stocked handed old new →
      WentBy (parked_events i told.id (used_before told) n (last_idle old)) old new
  parks_went i n part context told stocked handed old new parks = record {
    sizes_stay = ap (λ (b : Shared C L H). b.sizes) parks.new_is;
    started_stay = ap (λ (b : Shared C L H). b.started) parks.new_is;
    legal = parks.legal;
    events_are = ap (λ (b : Shared C L H). b.events) parks.new_is;
  }

-- a context is parked by the events of what it was before its spares went
pub parked_same : {C L H : Type 0} (i : ℕ) (last : Option ℕ) (old new : Shared C L H)
    (c d u v n : ℕ) → c ≡ d → u ≡ v → n ≡ 0 → WentBy (parked_events i c u n last) old new →
    WentBy (parked_events i d v 0 last) old new
parked_same i last old new c d u v n e f z w =
    subst (λ m. WentBy (parked_events i d v m last) old new) z
    (subst (λ x. WentBy (parked_events i d x n last) old new) f
    (subst (λ x. WentBy (parked_events i x u n last) old new) e w))

-- the same behind the layer's number
module _ {C L H : Type 0} where
  abbrev pub KeepsIt : (c d : ℕ) → L → (handed : Option L) → (number : Option ℕ) →
      (old new : Shared C L H) → Type 0
  KeepsIt c d layer handed number old new =
      IfSome number (λ k. Keeps c k d layer handed old new)

  pub layers_went : (c d : ℕ) (layer : L) (handed : Option L) (number : Option ℕ)
      (old mid new : Shared C L H) → KeepsIt c d layer handed number old mid → WentBy [] mid new →
      IfSome number (λ k. WentBy (built_events c k d (is_kept k old) (last_kept old)) old new)
  layers_went c d layer handed None old mid new keeps h = tt
  layers_went c d layer handed (Some k) old mid new keeps h =
      went_so _ old mid new (keeps_went c k d layer handed old mid keeps) h

  pub layers_loose : (kept : L → KeptLayer) (pin : L → Option Pin) (is_layer : L → Type 0)
      (c d : ℕ) (layer last : L) (handed : Option L) (number : Option ℕ)
      (old new : Shared C L H) →
      AllByRecursion (λ (e : ℕ × L). is_layer e.1 × IsLayerOf e.0 (kept e.1) (pin e.1)) old.kept →
      (k : ℕ) → number ≡ Some k → pin layer ≡ None → handed ≡ Some last →
      KeepsIt c d layer handed number old new → pin last ≡ None
  layers_loose kept pin is_layer c d layer last handed number old new all k e loose h keeps =
      layer_loose kept pin is_layer c k d layer last old new all loose
      (subst (λ x. Keeps c k d layer x old new) h
      (subst (λ o. KeepsIt c d layer handed o old new) e keeps))
