-- How values stand under slots.
use Rattle.std.specs.Prelude.{◌≡◌, ◌≢◌, ℕ, List, [], ◌∷◌, length, Option, None, Some, IsSome}
use Rattle.std.specs.Prelude.{is_some, count_by, slice_index_or, nat_eq}
use Rattle.std.specs.Bool.{⊤}
use Rattle.std.specs.List.{IsDistinct, AllZip, AllByRecursion}
use Rattle.cache_lists.specs.declared.idle_list.IdleContext.{IdleContext as Idle}
use Rattle.slab.specs.Slab.{Slab, get, slab_len}
use Rattle.slot_lists.specs.Lists.{Waiting, waiting_of}

-- ---- entries, with what stands under their slots in place of the slots

module _ {E V W : Type 0} (slot : E → ℕ) (made : E → V → W) where
  abbrev pub with_held : (key : ℕ) → E → Option V → List (ℕ × W) → List (ℕ × W)
  with_held key e None rest = rest
  with_held key e (Some value) rest = (key, made e value) ∷ rest

  unfoldable pub held : List (Option V) → List (ℕ × E) → List (ℕ × W)
  held slots [] = []
  held slots (e ∷ es) =
      with_held e.0 e.1 (slice_index_or slots (slot e.1) None) (held slots es)

module _ {E : Type 0} (slot : E → ℕ) where
  -- no entry has this slot
  abbrev pub IsApartFrom : (key : ℕ) → List (ℕ × E) → Type 0
  IsApartFrom key es = AllByRecursion (λ (e : ℕ × E). key ≢ slot e.1) es

  -- no two entries have one slot
  abbrev pub AreApart : List (ℕ × E) → Type 0
  AreApart [] = ⊤
  AreApart (e ∷ es) = IsApartFrom (slot e.1) es × AreApart es

  -- each entry's slot has a value
  abbrev pub AreFound : {V : Type 0} → List (Option V) → List (ℕ × E) → Type 0
  AreFound slots es =
      AllByRecursion (λ (e : ℕ × E). IsSome (slice_index_or slots (slot e.1) None)) es

-- each entry has a slot of its own with a value, and there are no other values
pub record AreHeld {E V : Type 0} (slot : E → ℕ) (slots : List (Option V)) (es : List (ℕ × E))
    : Type 0 where
  pub found : AreFound slot slots es
  pub apart : AreApart slot es
  pub counted : count_by is_some slots ≡ length es

-- ---- the two lists

-- the slot of a layer
abbrev pub layer_slot : ℕ → ℕ
layer_slot slot = slot

-- the layer alone
abbrev pub layer_made : {L : Type 0} → ℕ → L → L
layer_made slot layer = layer

abbrev pub idle_slot : Idle → ℕ
idle_slot e = e.slot

abbrev pub idle_made : {C : Type 0} → Idle → C → Waiting C
idle_made e context = waiting_of e.function context

abbrev pub held_layers : {L : Type 0} → List (Option L) → List (ℕ × ℕ) → List (ℕ × L)
held_layers slots es = held layer_slot layer_made slots es

abbrev pub held_contexts : {C : Type 0} → List (Option C) → List (ℕ × Idle) → List (ℕ × Waiting C)
held_contexts slots es = held idle_slot idle_made slots es

-- ---- what is handed out in the end

-- these values, each under a slot of its own, and no others
pub record AreUnder {V : Type 0} (values : List V) (slab : Slab V) : Type 0 where
  pub slots : List ℕ
  pub apart : IsDistinct nat_eq slots
  pub found : AllZip (λ (value : V) (slot : ℕ). get slab slot ≡ Some value) values slots
  pub counted : slab_len slab ≡ length values
