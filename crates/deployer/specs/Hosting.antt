-- What serves a request.
use Rattle.std.specs.Prelude.{◌≡◌, ◌⊎◌, ℕ, ◌∷◌, [], Bool, false, Option, None, Some}
use Rattle.book_core.specs.declared.deploying.Deployed.{Deployed}
use Rattle.book_model.specs.Kept.{IsNoted, givens}
use Rattle.book_model.specs.Shared.{Shared}
use Rattle.context_runs.specs.OfLayers.{IsOnStack, IsTop}
use Rattle.context_runs.specs.Standing.{StandsFor}
use Rattle.context_uc.specs.Views.{ContextView, parked_of, silent}
use Rattle.deployer.specs.Grounds.{IsUsable}
use Rattle.journal_model.specs.Legal.{first_for, request_function}
use Rattle.journal_model.specs.Reads.{served}
use Rattle.journal_model.specs.declared.event.Event.TheVariants.{Take}
use Rattle.journal_model.specs.declared.state.ContextState.{ContextState}
use Rattle.journal_model.specs.declared.state.Duty.TheVariants.{Serves}
use Rattle.plan_model.specs.Outline.{Outline}
use Rattle.service_laws.specs.Serving.{IsServing}
use Rattle.service_model.specs.Going.{WentBy}
use Rattle.space_api.specs.Flat.{Flat, machine_of}
use Rattle.space_api.specs.Holding.{Pin}

-- What is told of spaces, and what a pin keeps of them: their bytes, their spares, and whether
-- their deploy is finished.
pub record Telling (S : Type 0) : Type 0 where
  pub flat : S → Flat
  pub spares : S → ℕ
  pub finished : S → Bool
  pub pin : S → Option Pin

-- A context in service is usable; it stands at its function's layer, or on the way there, where it
-- has served nothing.
pub record IsInService {S : Type 0} (plan : Outline) (c : ContextView S) : Type 0 where
  pub is_usable : IsUsable plan c
  pub stands : IsTop plan c.function c.layer
      ⊎ ((c.served ≡ []) × IsOnStack plan c.function c.layer)

-- The space is to be a context's of the function, which stands where it was deployed from and has
-- served nothing.
pub record IsFresh {S : Type 0} (plan : Outline) (telling : Telling S) (function : ℕ)
    (d : Deployed S) : Type 0 where
  pub stands : StandsFor plan function d.from (machine_of d.hart (telling.flat d.space) silent)
  pub on_way : IsOnStack plan function d.from
  pub unfinished : telling.finished d.space ≡ false
  pub loose : telling.pin d.space ≡ None

module _ {S L H : Type 0} where
  -- The context serves the request, and what it tells of itself is what the journal says of it.
  pub record Hosts (plan : Outline) (telling : Telling S) (i : ℕ) (c : ContextView S)
      (book : Shared (ContextView S) L H) : Type 0 where
    pub in_service : IsInService plan c
    pub state : ContextState
    pub serving : IsServing book.state i c.id state
    pub function_is : request_function book.state i ≡ c.function
    pub noted : IsNoted state c.id (givens book.started (served book.state c.id))
        (parked_of telling.spares c)
    pub loose : telling.pin c.space ≡ None

  -- the context of a number is a new one, which serves the request where it was deployed from
  pub record IsDrawn (i function : ℕ) (d : Deployed S) (book : Shared (ContextView S) L H)
      : Type 0 where
    pub serving : IsServing book.state i d.context (record {
      function = function;
      layer = d.from;
      used = 0;
      duty = Serves i;
    })
    pub function_is : request_function book.state i ≡ function
    pub none_served : served book.state d.context ≡ []

  -- the most recent idle context of the request's function, or there is none, and nothing happened
  abbrev pub TakesHost : (plan : Outline) → (telling : Telling S) → (i function : ℕ) →
      Option (ContextView S) → (old new : Shared (ContextView S) L H) → Type 0
  TakesHost plan telling i function None old new = (new ≡ old)
      × (first_for function old.state.contexts old.state.idle ≡ None)
  TakesHost plan telling i function (Some context) old new =
      WentBy (Take context.id i ∷ []) old new × Hosts plan telling i context new
