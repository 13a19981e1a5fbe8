-- Entries of idle contexts, and the contexts of a journal.
use Rattle.std.specs.Prelude.{◌≡◌, ℕ, List, [], ◌∷◌, Some}
use Rattle.cache_lists.specs.declared.idle_list.IdleContext.{IdleContext as Entry}
use Rattle.journal_model.specs.State.{numbered}
use Rattle.journal_model.specs.declared.state.ContextState.{ContextState}

-- each entry's key is a context's number, and its function that context's
abbrev pub AreFor : List ContextState → List (ℕ × Entry) → Type 0
AreFor xs [] = Unit {0}
AreFor xs (e ∷ es) =
    ((x : ContextState) × (numbered xs e.0 ≡ Some x) × (x.function ≡ e.1.function)) × AreFor xs es
