-- A request that is started waits; and when one may be started.
use Rattle.std.proofs.Common.{◌≡◌, ℕ, ◌+◌, ◌<◌, ◌≤◌, true, [], ◌∷◌, ◌++◌, length}
use Rattle.std.proofs.Common.{None, Some, ◌∙◌, ap, arith, subst, nat_le, nat_lt}
use Rattle.std.proofs.lemmas.Bool.Decides.{nat_tests}
use Rattle.journal_model.specs.Extents.{Extents}
use Rattle.journal_model.specs.State.{State, numbered}
use Rattle.journal_model.specs.Legal as legal
use Rattle.journal_model.specs.Legal.{after, owes_nothing, is_clock}
use Rattle.journal_model.specs.declared.event.Event.TheVariants.{Start}
use Rattle.journal_model.specs.declared.answer.How.TheVariants as how
use Rattle.journal_model.specs.declared.state.Standing.TheVariants.{Open}
use Rattle.journal_model.specs.declared.state.RequestState.{RequestState}
use Rattle.journal_model.proofs.Frames.{and_first, stood}
use Rattle.journal_laws.proofs.Naming.{next_request}
use Rattle.journal_laws.proofs.Numbers.{pushed_here}
use Rattle.service_laws.proofs.Looking.{both, is_same, waiting_so, function_so}

abbrev new_request : ℕ → ℕ → RequestState
new_request f t = record {
  function = f;
  clock = t;
  standing = Open;
  how = how.None;
  context = None;
  used = 0;
  place = None;
}

start_entry : (sizes : Extents) (s : State) (i f t : ℕ) → legal.may_start sizes s i f t ≡ true →
    numbered (legal.after_start s f t).requests i ≡ Some (new_request f t)
unfolding legal.after_start
start_entry sizes s i f t m =
    ap (λ n. numbered (s.requests ++ new_request f t ∷ []) n) (next_request sizes s i f t m)
    ∙ pushed_here s.requests (new_request f t)

-- a request that was started waits, for its function
pub started_waits : (sizes : Extents) (s : State) (i f t : ℕ) →
    legal.may_start sizes s i f t ≡ true →
    (legal.is_waiting (legal.after_start s f t) i ≡ true)
    × (legal.request_function (legal.after_start s f t) i ≡ f)
started_waits sizes s i f t m = let e = start_entry sizes s i f t m in (
  waiting_so (legal.after_start s f t) i (new_request f t) e,
  function_so (legal.after_start s f t) i (new_request f t) e,
)

start_owes : (sizes : Extents) (s : State) (i f t : ℕ) → legal.may_start sizes s i f t ≡ true →
    owes_nothing (legal.after_start s f t).owed ≡ true
unfolding legal.after_start legal.may_start
start_owes sizes s i f t m =
    and_first _ _ (and_first _ _ (and_first _ _ (and_first _ _ m)))

-- after its start a request waits, for its function, and nothing is owed
pub start_waits : (sizes : Extents) (s : State) (i f z : ℕ) (t : State) →
    after sizes s (Start i f z) ≡ Some t → (legal.is_waiting t i ≡ true)
    × (legal.request_function t i ≡ f) × (owes_nothing t.owed ≡ true)
start_waits sizes s i f z t h =
    let r = stood _ _ t h in
    let w = started_waits sizes s i f z r.0 in
    let P : State → Type 0 = λ x. (legal.is_waiting x i ≡ true)
    × (legal.request_function x i ≡ f) × (owes_nothing x.owed ≡ true) in
    subst P r.1 (w.0, w.1, start_owes sizes s i f z r.0)

at_most : (m n : ℕ) → m ≤ n → nat_le m n ≡ true
at_most m n h = grind (arith, nat_tests)

less : (m n : ℕ) → m < n → nat_lt m n ≡ true
less m n h = grind (arith, nat_tests)

-- the next request may be started where nothing is owed and there is room for one more
pub next_starts : (sizes : Extents) (s : State) (i f t : ℕ) → owes_nothing s.owed ≡ true →
    i ≡ length s.requests + 1 → i ≤ sizes.requests → f < length sizes.stacks →
    is_clock sizes.clock t ≡ true → legal.may_start sizes s i f t ≡ true
unfolding legal.may_start
next_starts sizes s i f t o n l m k =
    both _ _ (both _ _ (both _ _ (both _ _ o (is_same i (length s.requests + 1) n))
    (at_most i sizes.requests l)) (less f (length sizes.stacks) m)) k

-- and then it is
pub next_is_started : (sizes : Extents) (s : State) (i f t : ℕ) →
    legal.may_start sizes s i f t ≡ true →
    after sizes s (Start i f t) ≡ Some (legal.after_start s f t)
next_is_started sizes s i f t m = ap (λ b. legal.step_if b (legal.after_start s f t)) m
