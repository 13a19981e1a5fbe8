-- A context served as many requests as it answered.
use Rattle.std.proofs.Common.{◌≡◌, ℕ, ◌+◌, ◌<◌, suc, zero, List, [], ◌∷◌, ◌++◌, length}
use Rattle.std.proofs.Common.{Some, refl, ◌∙◌, ap, arith}
use Rattle.std.proofs.lemmas.List.{length-append}
use Rattle.journal_model.specs.Extents.{Extents}
use Rattle.journal_model.specs.State.{State, numbered}
use Rattle.journal_model.specs.Legal as legal
use Rattle.journal_model.specs.Legal.{after_all, at_first}
use Rattle.journal_model.specs.Reads.{answer_from, answers_below, served}
use Rattle.journal_model.specs.declared.event.Event.{Event}
use Rattle.journal_model.specs.declared.state.RequestState.{RequestState}
use Rattle.journal_model.specs.declared.state.ContextState.{ContextState}
use Rattle.journal_laws.proofs.Answering.{below_more}
use Rattle.journal_laws.proofs.Serving.{each_answer}
use Rattle.service_laws.proofs.Looking.{answered_by_so}

-- where each answer below a number is found, there are so many
answers_count : (c u : ℕ) (rs : List RequestState) →
    ((v : ℕ) → v < u → (j : ℕ) × (answer_from c v 1 rs ≡ Some j)) →
    length (answers_below c u rs) ≡ u
unfolding answers_below
answers_count c zero rs h = refl
answers_count c (suc u) rs h =
    let p = h u (omega arith) in
    let e : length (answers_below c u rs) ≡ u =
    answers_count c u rs (λ v l. h v (omega arith)) in
    let k : length (answers_below c u rs ++ p.0 ∷ []) ≡ length (answers_below c u rs) + 1 =
    length-append (answers_below c u rs) (p.0 ∷ []) in
    ap length (below_more c u p.0 rs p.1) ∙ omega (arith, e, k)

count_is : (s : State) (c : ℕ) →
    length (answers_below c (legal.answered_by s c) s.requests) ≡ legal.answered_by s c →
    length (served s c) ≡ legal.answered_by s c
unfolding served
count_is s c h = h

-- how many requests a context served is how often it was used
pub served_count : (sizes : Extents) (es : List Event) (s : State) (c : ℕ) (x : ContextState) →
    after_all sizes (at_first sizes) es ≡ Some s → numbered s.contexts c ≡ Some x →
    length (served s c) ≡ x.used
served_count sizes es s c x h k =
    count_is s c (answers_count c (legal.answered_by s c) s.requests
    (λ v l. each_answer sizes es s c v h l))
    ∙ answered_by_so s c x k
