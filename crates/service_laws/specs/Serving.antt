-- A request that a context serves, from when it was given the context to its answer.
use Rattle.std.specs.Prelude.{◌≡◌, ℕ, Bool, true, false, ◌==◌, Option, Some}
use Rattle.journal_model.specs.State.{State, numbered}
use Rattle.journal_model.specs.Legal.{is_open, owes_nothing, request_function}
use Rattle.journal_model.specs.declared.event.Event.{Event}
use Rattle.journal_model.specs.declared.event.Event.TheVariants.{Start, Take, Deploy, Refill}
use Rattle.journal_model.specs.declared.event.Event.TheVariants.{Built, Keep, Dup, Drop, Evict}
use Rattle.journal_model.specs.declared.event.Event.TheVariants.{Park, End, Back, Refuse, Want}
use Rattle.journal_model.specs.declared.event.Event.TheVariants.{Answer}
use Rattle.journal_model.specs.declared.state.ContextState.{ContextState}
use Rattle.journal_model.specs.declared.state.Duty.TheVariants.{Serves}

-- context c, which is x, serves the open request i; this holds between any two events
pub record IsAtWork (s : State) (i c : ℕ) (x : ContextState) : Type 0 where
  pub context : numbered s.contexts c ≡ Some x
  pub duty : x.duty ≡ Serves i
  pub open_one : is_open s i ≡ true

-- and nothing is owed
pub record IsServing (s : State) (i c : ℕ) (x : ContextState) : Type 0 where
  pub work : IsAtWork s i c x
  pub owes : owes_nothing s.owed ≡ true

-- the context that is deployed for request i, at layer k or at the image
abbrev pub deployed_context : State → (k : Option ℕ) → (i : ℕ) → ContextState
deployed_context s k i = record {
  function = request_function s i;
  layer = k;
  used = 0;
  duty = Serves i;
}

-- the event is an answer by context c
abbrev pub is_answer_by : (c : ℕ) → Event → Bool
is_answer_by c (Start i f t) = false
is_answer_by c (Take d i) = false
is_answer_by c (Deploy d k i n) = false
is_answer_by c (Refill d h n) = false
is_answer_by c (Built d k w) = false
is_answer_by c (Keep k) = false
is_answer_by c (Dup k) = false
is_answer_by c (Drop k) = false
is_answer_by c (Evict d) = false
is_answer_by c (Park d) = false
is_answer_by c (End d) = false
is_answer_by c (Back n) = false
is_answer_by c (Refuse i) = false
is_answer_by c (Want i) = false
is_answer_by c (Answer i d u) = d == c
