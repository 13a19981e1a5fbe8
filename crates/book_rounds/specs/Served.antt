-- A context in hand that serves a request.
use Rattle.std.specs.Prelude.{◌≡◌, ℕ, List, Some, map}
use Rattle.journal_model.specs.State.{State}
use Rattle.journal_model.specs.Reads.{served}
use Rattle.journal_model.specs.declared.state.ContextState.{ContextState}
use Rattle.service_laws.specs.Serving.{IsServing}
use Rattle.space_api.specs.Told.{ParkedContext}
use Rattle.book_log.specs.declared.started.Started.{Started}
use Rattle.book_model.specs.Kept.{givens}

-- it serves request i, what it tells of itself is what the journal says of it, and it holds no
-- spare
pub record IsServed (i : ℕ) (told : ParkedContext) (s : State) (started : List Started)
    : Type 0 where
  pub context : ContextState
  pub serving : IsServing s i told.id context
  pub for_function : told.function ≡ context.function
  pub place : told.layer ≡ context.layer
  pub bare : told.spares ≡ 0
  pub in_order : map Some told.served ≡ givens started (served s told.id)
