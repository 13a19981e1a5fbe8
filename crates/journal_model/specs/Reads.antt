-- What is read from a journal's state of a request that was started, and of a context.
use Rattle.std.specs.Prelude.{ℕ, ◌+◌, zero, suc, Bool, true, false, ◌&&◌, ◌==◌, if◌then◌else◌}
use Rattle.std.specs.Prelude.{List, [], ◌∷◌, ◌++◌, Option, None, Some}
use Rattle.journal_model.specs.State.{State, numbered, is_just}
use Rattle.journal_model.specs.Legal.{answered_by}
use Rattle.journal_model.specs.declared.answer.How.{How}
use Rattle.journal_model.specs.declared.answer.How.TheVariants as how
use Rattle.journal_model.specs.declared.state.RequestState.{RequestState}
use Rattle.journal_model.specs.declared.state.Standing.{Standing}
use Rattle.journal_model.specs.declared.state.Standing.TheVariants.{Open, Answered, Refused}
use Rattle.journal_model.specs.declared.state.Standing.TheVariants.{Wanted}

-- where a request's context came from, its number, and how many requests it had answered; a
-- request that has none has context 0
pub record Service : Type 0 where
  pub how : How
  pub context : ℕ
  pub used : ℕ

abbrev pub number_or_zero : Option ℕ → ℕ
number_or_zero None = 0
number_or_zero (Some n) = n

abbrev pub service_of_one : Option RequestState → Service
service_of_one None = record { how = how.None; context = 0; used = 0 }
service_of_one (Some r) = record {
  how = r.how;
  context = number_or_zero r.context;
  used = r.used;
}

-- what the line of request i says of its context
unfoldable pub service_of : State → (i : ℕ) → Service
service_of s i = service_of_one (numbered s.requests i)

abbrev pub place_at_end_of_one : Option RequestState → Option ℕ
place_at_end_of_one None = None
place_at_end_of_one (Some r) = r.place

-- where the context of request i stood when the request was answered, refused or wanted
unfoldable pub place_at_end : State → (i : ℕ) → Option ℕ
place_at_end s i = place_at_end_of_one (numbered s.requests i)

abbrev pub is_answered_standing : Standing → Bool
is_answered_standing Open = false
is_answered_standing Answered = true
is_answered_standing Refused = false
is_answered_standing Wanted = false

-- context c answered the request, after v earlier ones
abbrev pub is_answer_of : (c v : ℕ) → RequestState → Bool
is_answer_of c v r = is_answered_standing r.standing && is_just r.context c && (r.used == v)

-- the number of the first of these requests that context c answered after v earlier ones, where
-- they are numbered from n
unfoldable pub answer_from : (c v n : ℕ) → List RequestState → Option ℕ
answer_from c v n [] = None
answer_from c v n (r ∷ rs) = if is_answer_of c v r then Some n else answer_from c v (n + 1) rs

-- a number more, if there is one
abbrev pub with_last : List ℕ → Option ℕ → List ℕ
with_last xs None = xs
with_last xs (Some x) = xs ++ x ∷ []

-- the requests that context c answered after fewer than u others, in order
unfoldable pub answers_below : (c u : ℕ) → List RequestState → List ℕ
answers_below c zero rs = []
answers_below c (suc v) rs = with_last (answers_below c v rs) (answer_from c v 1 rs)

-- the requests that context c answered, in order
unfoldable pub served : State → (c : ℕ) → List ℕ
served s c = answers_below c (answered_by s c) s.requests

abbrev pub earlier_given : List RequestState → (used : ℕ) → Option ℕ → List ℕ
earlier_given rs used None = []
earlier_given rs used (Some c) = answers_below c used rs

abbrev pub earlier_one : List RequestState → Option RequestState → List ℕ
earlier_one rs None = []
earlier_one rs (Some r) = earlier_given rs r.used r.context

-- the requests that the context of request i had answered when it was given that context, in order
unfoldable pub earlier : State → (i : ℕ) → List ℕ
earlier s i = earlier_one s.requests (numbered s.requests i)
