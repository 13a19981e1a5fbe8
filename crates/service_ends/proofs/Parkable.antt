-- A context that served its request may be parked.
use Rattle.std.proofs.Common.{◌≡◌, ℕ, ◌+◌, ◌-◌, ◌≤◌, ◌<◌, true, Some, length, nat_le, nat_lt, ◌&&◌}
use Rattle.std.proofs.Common.{arith, sym, ◌∙◌, ap, subst}
use Rattle.std.proofs.lemmas.Bool.{leb-true, ltb-true}
use Rattle.batch_model.specs.Events.{is_ok}
use Rattle.book_model.specs.Shared.{Shared}
use Rattle.book_model.specs.Steps.{MayPark}
use Rattle.context_uc.specs.Views.{ContextView, parked_of}
use Rattle.deployer.specs.Grounds.{IsSizedBy}
use Rattle.deployer.specs.Hosting.{Telling}
use Rattle.journal_model.proofs.Frames.{and_first, and_second}
use Rattle.journal_model.specs.Legal.{may_answer}
use Rattle.journal_model.specs.State.{numbered}
use Rattle.journal_model.specs.declared.answer.Answer.{Answer}
use Rattle.request_service.specs.Ending.{MayIdle, to_park}
use Rattle.service_laws.proofs.Staying.{serving_answers}

one_less : (n m : ℕ) → n ≡ m + 1 → n - 1 ≡ m
one_less n m e = ap (λ k. k - 1) e ∙ omega arith

module _ {S L H : Type 0} (telling : Telling S) (a : Answer) (c : ContextView S)
    (book : Shared (ContextView S) L H) where
  pub used_of : MayIdle telling a c book → length c.served - 1 ≡ a.used
  used_of idle = one_less (length c.served) a.used idle.count

  pub parkable : IsSizedBy c.plan book.sizes → MayIdle telling a c book →
      to_park c.plan.numbers a.end a.used ≡ true →
      MayPark a.i (parked_of telling.spares c) (telling.pin c.space) book
  parkable sizes idle is =
      let all_but = and_first (is_ok a.end && nat_le 1 c.plan.numbers.idle)
      (nat_lt (a.used + 1) c.plan.numbers.uses) is in
      let used = used_of idle in record {
        state = idle.by.state;
        state_is = subst (λ n. numbered book.state.contexts n ≡ Some idle.by.state)
            (sym idle.id_is) idle.by.serving.work.context;
        answers = subst (λ n. may_answer book.state a.i n (length c.served - 1) ≡ true)
            (sym idle.id_is) (subst (λ u. may_answer book.state a.i a.context u ≡ true)
            (idle.by.used_is ∙ sym used)
            (serving_answers book.state a.i a.context idle.by.state idle.by.serving));
        some_room = subst (λ n. 1 ≤ n) (sym sizes.idle)
            (leb-true 1 c.plan.numbers.idle (and_second (is_ok a.end) _ all_but));
        is_usable = subst (λ n. n + 1 < book.sizes.uses) (sym used)
            (subst (λ n. a.used + 1 < n) (sym sizes.uses) (ltb-true (a.used + 1)
            c.plan.numbers.uses (and_second (is_ok a.end && nat_le 1 c.plan.numbers.idle) _ is)));
        noted = idle.noted;
        loose = idle.loose;
      }
