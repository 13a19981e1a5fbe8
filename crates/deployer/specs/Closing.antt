-- What is asked where a service ends.
use Rattle.std.specs.Prelude.{ℕ, Option, IfSome}
use Rattle.book_model.specs.Shared.{Shared}
use Rattle.journal_model.specs.declared.state.ContextState.{ContextState}
use Rattle.service_laws.specs.Serving.{IsServing}

-- the request is open, and the context serves it, where it has one
abbrev pub MayWant : {C L H : Type 0} → (i : ℕ) → (context : Option ℕ) → Shared C L H → Type 0
MayWant i context book =
    IfSome context (λ c. (x : ContextState) × IsServing book.state i c x)
