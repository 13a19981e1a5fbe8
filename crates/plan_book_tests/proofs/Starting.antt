-- The first request of a book.
use Rattle.std.proofs.Common.{◌≡◌, ℕ, ◌+◌, ◌≤◌, ◌<◌, ◌==◌, Bool, true, false, [], ◌∷◌, None, Some}
use Rattle.std.proofs.Common.{Option, length, refl, sym, ap, ◌∙◌, arith, subst, ◌&&◌}
use Rattle.std.specs.Prelude.{nat_le, nat_lt}
use Rattle.std.proofs.lemmas.Bool.Decides.{nat_tests}
use Rattle.std.proofs.lemmas.List.{length-map}
use Rattle.batch_model.specs.Setting.{stack_on}
use Rattle.book_model.specs.Shared.{Shared}
use Rattle.journal_model.specs.Extents.{Extents}
use Rattle.journal_model.specs.Legal.{after_start, at_first, is_clock, is_open, may_start}
use Rattle.journal_model.specs.State.{State, numbered}
use Rattle.plan_book.specs.Opened.{fresh_book}
use Rattle.plan_book.specs.Sized.{sizes_for}
use Rattle.plan_model.specs.Outline.{Outline}
use Rattle.plan_book_tests.specs.First.{MayBeFirst}

clock_shown : (clock : Option ℕ) (t : ℕ) → clock ≡ Some t → is_clock clock t ≡ true
clock_shown clock t e = subst (λ (o : Option ℕ). is_clock o t ≡ true) (sym e) (same t) where
  same : (t : ℕ) → is_clock (Some t) t ≡ true
  same t = grind (arith, nat_tests)

-- it may be started
pub may_begin : (sizes : Extents) (f t : ℕ) → MayBeFirst sizes f t →
    may_start sizes (at_first sizes) 1 f t ≡ true
unfolding may_start
may_begin sizes f t h = all (nat_le 1 sizes.requests) (nat_lt f (length sizes.stacks))
    (is_clock sizes.clock t) (grind (arith, nat_tests, h.some)) (grind (arith, nat_tests, h.there))
    (clock_shown sizes.clock t h.clock) where
      all : (a b c : Bool) → a ≡ true → b ≡ true → c ≡ true → (a && b && c) ≡ true
      all a b c h k l = cc

first_open : (sizes : Extents) (f t : ℕ) → is_open (after_start (at_first sizes) f t) 1 ≡ true
unfolding is_open after_start numbered
first_open sizes f t = refl

module _ {C L H : Type 0} where
  -- it may be started in a fresh book
  pub may_begin_in : (book : Shared C L H) (f t : ℕ) →
      book ≡ fresh_book book.sizes book.images book.shelf → MayBeFirst book.sizes f t →
      may_start book.sizes book.state (length book.started + 1) f t ≡ true
  may_begin_in book f t e h = subst (λ (b : Shared C L H).
      may_start book.sizes b.state (length b.started + 1) f t ≡ true) (sym e)
      (may_begin book.sizes f t h)

  -- and then it is open
  pub opens_in : (old : Shared C L H) (state : State) (i f t : ℕ) →
      old ≡ fresh_book old.sizes old.images old.shelf → i ≡ length old.started + 1 →
      state ≡ after_start old.state f t → is_open state i ≡ true
  opens_in old state i f t e n h =
      let number : i ≡ 1 = omega (arith, n, ap (λ (b : Shared C L H). length b.started) e) in
      let from : old.state ≡ at_first old.sizes = ap (λ (b : Shared C L H). b.state) e in
      subst (λ (m : ℕ). is_open state m ≡ true) (sym number)
      (subst (λ (s : State). is_open s 1 ≡ true) (sym (h ∙ ap (λ s. after_start s f t) from))
      (first_open old.sizes f t))

  -- a book that was opened is fresh
  pub fresh_again : (book : Shared C L H) (sizes : Extents) →
      book ≡ fresh_book sizes book.images book.shelf →
      book ≡ fresh_book book.sizes book.images book.shelf
  fresh_again book sizes e = e ∙ ap (λ (x : Extents). fresh_book x book.images book.shelf)
      (sym (ap (λ (b : Shared C L H). b.sizes) e))

  -- and its first request may be one of the plan's functions, when the plan's clock shows it
  pub first_of_plan : (book : Shared C L H) (plan : Outline) (f t : ℕ) →
      book ≡ fresh_book (sizes_for plan 1) book.images book.shelf → f < length plan.functions →
      t ≡ plan.numbers.clock → MayBeFirst book.sizes f t
  first_of_plan book plan f t e h k = subst (λ (x : Extents). MayBeFirst x f t)
      (sym (ap (λ (b : Shared C L H). b.sizes) e)) (record {
        some = omega arith;
        there = omega (arith, h, length-map plan.functions (stack_on plan.layers));
        clock = ap Some (sym k);
      })
