-- How a capture of a context ends.
use Rattle.std.specs.Prelude.{◌≡◌, ℕ, Bool, true, Some, IfSome, slice_get}
use Rattle.image_model.specs.Pages.{page_limit}
use Rattle.machine_model.specs.Machine.{count_below}
use Rattle.plan_model.specs.declared.layer.PlanLayer.{PlanLayer}
use Rattle.space_api.specs.Holding.{Holding}
use Rattle.space_api.specs.Stores.{Frozen, Spaced, WentOn, WasFrozen, IsUncaptured}
use Rattle.context_uc.specs.Views.{ContextView, LayerView}
use Rattle.context_uc.specs.declared.capturing.Taken.{Taken}
use Rattle.context_uc.specs.declared.capturing.Taken.TheVariants.{Done, NeedFrames, Memory}

-- the layer of the number, where the context stands now, between runs; nothing else of the context
-- changes but its space
pub record IsTaken {Z S : Type 0} (number : ℕ) (old : ContextView S) (layer : LayerView Z)
    (new : ContextView S) : Type 0 where
  pub plan_is : layer.plan ≡ old.plan
  pub number_is : layer.number ≡ Some number
  pub start_is : IfSome (slice_get old.plan.layers number)
      (λ (l : PlanLayer). layer.start ≡ l.start)
  pub hart_is : layer.hart ≡ old.hart
  pub context_is : new ≡ record old {
    layer = Some number;
    still = true;
    space = new.space;
  }

-- nothing of the context changes, and its space tells and holds what it did
pub record IsUntaken {S : Type 0} (spaced : S → Spaced) (space_held : S → Holding)
    (old new : ContextView S) : Type 0 where
  pub context_is : new ≡ record old { space = new.space }
  pub space_is : IsUncaptured (spaced old.space) (spaced new.space) (space_held old.space)
      (space_held new.space)

-- a capture of a context ends so, where this is what memory and spaces tell and hold
abbrev pub Takes : {Z S : Type 0} → (takes lacks : Bool) → (frozen_told : Z → Frozen) →
    (frozen_held : Z → Holding) → (spaced : S → Spaced) → (space_held : S → Holding) →
    (number : ℕ) → (old : ContextView S) → Taken (LayerView Z) (ContextView S) → Type 0
Takes takes lacks frozen_told frozen_held spaced space_held number old (Done layer new pages) =
    IsTaken number old layer new × WentOn takes (spaced old.space) (spaced new.space)
    × WasFrozen takes (spaced old.space) (space_held old.space) (frozen_told layer.frozen)
    (frozen_held layer.frozen) (space_held new.space)
    × (pages ≡ count_below (spaced old.space).flat.written page_limit)
Takes takes lacks frozen_told frozen_held spaced space_held number old (NeedFrames new) =
    (takes ≡ true) × ((spaced old.space).spares ≡ 0) × IsUntaken spaced space_held old new
Takes takes lacks frozen_told frozen_held spaced space_held number old (Memory new) =
    (lacks ≡ true) × IsUntaken spaced space_held old new
