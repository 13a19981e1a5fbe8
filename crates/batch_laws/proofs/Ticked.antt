-- How many instructions a batch has ticked.
use Rattle.std.proofs.Common.{◌≡◌, ◌≢◌, ℕ, ◌+◌, ◌≤◌, ◌<◌, inl, inr, zero, suc, List, [], ◌∷◌}
use Rattle.std.proofs.Common.{◌++◌, length, take, get_or, Option, None, Some, refl, sym, ◌∙◌, ap}
use Rattle.std.proofs.Common.{subst, arith}
use Rattle.std.specs.List.{All, slice_get, sum_by}
use Rattle.std.proofs.lemmas.List.{take_all, take_more}
use Rattle.std.proofs.lemmas.List.Sums.{sum_by-append}
use Rattle.std.proofs.lemmas.Option.{none-some, slice_get_within, get_or_from_slice_get}
use Rattle.batch_laws.specs.SoFar.{AreInOrder, IsSoFar, with_line}
use Rattle.batch_laws.specs.Ticks.{EachByRun, HasTicked, steps_in, steps_of}
use Rattle.batch_laws.proofs.Numbered.{line_here, line_other, within}
use Rattle.batch_laws.proofs.Right.{in_list, stands_next}
use Rattle.book_model.specs.Shared.{Shared}
use Rattle.journal_model.specs.State.{numbered}
use Rattle.journal_model.specs.declared.answer.Answer.{Answer}
use Rattle.journal_model.proofs.Looks.{decide}
use Rattle.line_laws.proofs.Settled.{number_next}
use Rattle.plan_model.specs.Outline.{Outline}
use Rattle.request_lines.specs.declared.request.Request.{Request}
use Rattle.request_service.specs.Turns.{EndsByRun}

-- ---- sums of steps

steps_zero : (answers : ℕ → Option Answer) → steps_of answers 0 ≡ 0
unfolding steps_of
steps_zero answers = refl

steps_more : (answers : ℕ → Option Answer) (n : ℕ)
    → steps_of answers (suc n) ≡ steps_of answers n + steps_in (answers (suc n))
unfolding steps_of
steps_more answers n = refl

steps_none : (answers : ℕ → Option Answer) → ((i : ℕ) → answers i ≡ None) → (n : ℕ)
    → steps_of answers n ≡ 0
steps_none answers none zero = steps_zero answers
steps_none answers none (suc n) =
    let more = steps_more answers n in
    let rest = steps_none answers none n in
    let last : steps_in (answers (suc n)) ≡ 0 = ap steps_in (none (suc n)) in
    omega (arith, more, rest, last)

steps_before : (i : ℕ) (answer : Answer) (answers : ℕ → Option Answer) (n : ℕ) → n < i
    → steps_of (with_line i answer answers) n ≡ steps_of answers n
steps_before i answer answers zero h =
    steps_zero (with_line i answer answers) ∙ sym (steps_zero answers)
steps_before i answer answers (suc n) h =
    let more = steps_more (with_line i answer answers) n in
    let was = steps_more answers n in
    let rest = steps_before i answer answers n (omega (arith, h)) in
    let last : steps_in (with_line i answer answers (suc n)) ≡ steps_in (answers (suc n))
    = ap steps_in (line_other i answer answers (suc n) (λ e. absurd (omega (arith, e, h)))) in
    omega (arith, more, was, rest, last)

-- with the line of one of them they are its steps more
steps_with : (i : ℕ) (answer : Answer) (answers : ℕ → Option Answer) (n : ℕ)
    → answers i ≡ None → 1 ≤ i → i ≤ n
    → steps_of (with_line i answer answers) n ≡ steps_of answers n + answer.steps
steps_with i answer answers zero none first few = absurd (omega (arith, first, few))
steps_with i answer answers (suc n) none first few =
    let more = steps_more (with_line i answer answers) n in
    let was = steps_more answers n in
    elim (decide (suc n) i) [
      | inl e ↦ (let rest = steps_before i answer answers n (omega (arith, e)) in
          let last : steps_in (with_line i answer answers (suc n)) ≡ answer.steps
          = ap steps_in (line_here i answer answers (suc n) e) in
          let old : steps_in (answers (suc n)) ≡ 0
          = ap (λ k. steps_in (answers k)) e ∙ ap steps_in none in
          omega (arith, more, was, rest, last, old))
      | inr d ↦ (let rest = steps_with i answer answers n none first
          (not_last i n few d) in
          let last : steps_in (with_line i answer answers (suc n)) ≡ steps_in (answers (suc n))
          = ap steps_in (line_other i answer answers (suc n) d) in
          omega (arith, more, was, rest, last))
    ] where
      not_last : (i n : ℕ) → i ≤ suc n → suc n ≢ i → i ≤ n
      not_last i n h d = omega (arith, h, d)

-- ---- ticks

pub nothing_ticked : (answers : ℕ → Option Answer) (n from : ℕ) → ((i : ℕ) → answers i ≡ None)
    → HasTicked answers n 0 0 from from
nothing_ticked answers n from none each =
    let s = steps_none answers none n in omega (arith, s)

pub goes_ticked : (answers : ℕ → Option Answer)
    (n took more before after others from earlier ticks : ℕ)
    → HasTicked answers n took (before + others) from earlier
    → ticks + before ≡ earlier + (more + after)
    → HasTicked answers n (took + more) (after + others) from ticks
goes_ticked answers n took more before after others from earlier ticks so turn each =
    let was = so each in omega (arith, was, turn)

each_before : (answers : ℕ → Option Answer) (answer : Answer) (i : ℕ) → answers i ≡ None
    → EachByRun (with_line i answer answers) → EachByRun answers
each_before answers answer i none each j b is = elim (decide j i) [
  | inl e ↦ absurd (none-some b (sym (ap answers e ∙ none) ∙ is))
  | inr d ↦ each j b (line_other i answer answers j d ∙ is)
]

pub closes_ticked : (answers : ℕ → Option Answer) (answer : Answer)
    (i n took before others from earlier ticks : ℕ) → answers i ≡ None → 1 ≤ i → i ≤ n
    → HasTicked answers n took (before + others) from earlier
    → (EndsByRun answer.end → ticks + before ≡ earlier + answer.steps)
    → HasTicked (with_line i answer answers) n took others from ticks
closes_ticked answers answer i n took before others from earlier ticks none first few so turn
    each =
    let was = so (each_before answers answer i none each) in
    let now = turn (each i answer (line_here i answer answers i refl)) in
    let steps = steps_with i answer answers n none first few in
    omega (arith, was, now, steps)

-- ---- the whole batch

one_step : (a : Answer) → sum_by (λ (b : Answer). b.steps) (a ∷ []) ≡ a.steps
one_step a = omega arith

summed : (answers : ℕ → Option Answer) (lines : List Answer)
    → ((i : ℕ) (a : Answer) → numbered lines i ≡ Some a → answers i ≡ Some a)
    → (n : ℕ) → n ≤ length lines
    → steps_of answers n ≡ sum_by (λ (a : Answer). a.steps) (take n lines)
summed answers lines each zero h = steps_zero answers
summed answers lines each (suc n) h =
    let one = stands_next lines n (omega (arith, h)) in
    let is : slice_get lines n ≡ Some one.one = sym (number_next lines n) ∙ one.is in
    let item : get_or lines n one.one ≡ one.one
    = get_or_from_slice_get lines n one.one one.one is in
    let more = steps_more answers n in
    let rest = summed answers lines each n (omega (arith, h)) in
    let up : suc n ≡ n + 1 = omega arith in
    let last : steps_in (answers (suc n)) ≡ one.one.steps
    = ap (λ k. steps_in (answers k)) up ∙ ap steps_in (each (n + 1) one.one one.is) in
    let longer : take (suc n) lines ≡ take n lines ++ one.one ∷ []
    = ap (λ k. take k lines) up
    ∙ (take_more lines n one.one (omega (arith, h)) ∙ ap (λ x. take n lines ++ x ∷ []) item) in
    let longer_sum = ap (sum_by (λ (a : Answer). a.steps)) longer in
    let sum = sum_by-append (λ (a : Answer). a.steps) (take n lines) (one.one ∷ []) in
    let single : sum_by (λ (a : Answer). a.steps) (one.one ∷ []) ≡ one.one.steps
    = one_step one.one in
    omega (arith, more, rest, last, longer_sum, sum, single)

by_run : (lines : List Answer) → All (λ (a : Answer). EndsByRun a.end) lines → (k : ℕ)
    (a : Answer) → slice_get lines k ≡ Some a → EndsByRun a.end
by_run lines all k a is = subst (λ (b : Answer). EndsByRun b.end)
    (get_or_from_slice_get lines k a a is) (all k a (slice_get_within lines k a is))

numbered_by_run : (lines : List Answer) → All (λ (a : Answer). EndsByRun a.end) lines
    → (i : ℕ) (a : Answer) → numbered lines i ≡ Some a → EndsByRun a.end
numbered_by_run lines all i a is =
    let w = within lines i a is in
    by_run lines all w.k a (sym (number_next lines w.k) ∙ (ap (λ n. numbered lines n)
    (sym w.next) ∙ is))

pub whole_ticked : {C L H : Type 0} (plan : Outline) (requests : List Request)
    (answers : ℕ → Option Answer) (took from ticks : ℕ) (lines : List Answer)
    (book : Shared C L H) → IsSoFar plan requests answers took book
    → AreInOrder requests answers lines → HasTicked answers (length requests) took 0 from ticks
    → All (λ (answer : Answer). EndsByRun answer.end) lines
    → ticks ≡ from + (took + sum_by (λ (answer : Answer). answer.steps) lines)
whole_ticked plan requests answers took from ticks lines book so order ticked all =
    let each : EachByRun answers = λ i a is. numbered_by_run lines all i a
    (in_list plan requests answers took lines book so order i a is) in
    let count = order.count in
    let here = ticked each in
    let sum : steps_of answers (length lines) ≡ sum_by (λ (a : Answer). a.steps) lines
    = summed answers lines order.each (length lines) (omega arith)
    ∙ ap (sum_by (λ (a : Answer). a.steps)) (take_all (length lines) lines (omega arith)) in
    let same : steps_of answers (length requests) ≡ steps_of answers (length lines)
    = ap (steps_of answers) (sym count) in
    omega (arith, here, sum, same)
