-- A context that was answered and may be used again.
use Rattle.std.specs.Prelude.{◌≡◌, ℕ, ◌<◌, suc, false, List, Option, Some}
use Rattle.journal_model.specs.State.{numbered}
use Rattle.journal_model.specs.Legal.{answered_by_one, place_of_one, is_open_standing}
use Rattle.journal_model.specs.Reads.{answer_from}
use Rattle.journal_model.specs.declared.state.RequestState.{RequestState}
use Rattle.journal_model.specs.declared.state.ContextState.{ContextState}

-- how many requests context c of these answered; 0 where it wasn't drawn
abbrev pub used_in : List ContextState → (c : ℕ) → ℕ
used_in xs c = answered_by_one (numbered xs c)

-- where context c of these stands
abbrev pub layer_in : List ContextState → (c : ℕ) → Option ℕ
layer_in xs c = place_of_one (numbered xs c)

-- context c answered at least one of these requests and fewer than it may, and stands where it
-- stood when it answered the last of them
pub record IsRested (uses : ℕ) (rs : List RequestState) (xs : List ContextState) (c : ℕ)
    : Type 0 where
  pub before : ℕ
  pub used : used_in xs c ≡ suc before
  pub below : suc before < uses
  pub number : ℕ
  pub found : answer_from c before 1 rs ≡ Some number
  pub one : RequestState
  pub entry : numbered rs number ≡ Some one
  pub closed : is_open_standing one.standing ≡ false
  pub place : one.place ≡ layer_in xs c
