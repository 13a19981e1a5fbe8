use Rattle.std.proofs.Common.{subst, sym, ap, ◌∙◌, ◌≡◌, true, refl, Some, ℕ}
use Rattle.std.specs.Prelude.{option_map}
use Rattle.journal_model.specs.Legal.{is_waiting, request_function}
use Rattle.cache_lists.specs.Recent.{Recent}
use Rattle.book_model.specs.Kept.{IsWaiting}
use Rattle.slot_lists.specs.Lists.{Waiting, waiting_of}
use Rattle.book_model.specs.Shared.{Shared}
use Rattle.book_model.specs.Steps.{FindsNone}
use Rattle.book_model.proofs.Results.{take_may, find_is, stands_taken, find_context, takes_is}
use Rattle.book_core.proofs.book.Book.take_idle.Goals as goal

pub returns-in_default-clause-taken : goal.returns-in_default-clause-taken
returns-in_default-clause-taken g c =
    let f = subst (λ (b : Shared _ _ _). request_function b.state c.args.i ≡ c.args.f)
    (sym c.self.view_is) c.requires.function in
    subst (λ (b : Shared _ _ _). FindsNone c.args.i b b) c.self.view_is (record {
      none = sym (find_is _ _ _ _ _ _ _ _ c.args.f c.args.i c.self.invariant.2.held f)
          ∙ (sym c.find.ensures ∙ c.in_default.is);
      same = refl;
    })

pub note-requires-clause-may : goal.note-requires-clause-may
note-requires-clause-may g c =
    let f = subst (λ (b : Shared _ _ _). request_function b.state c.args.i ≡ c.args.f)
    (sym c.self.view_is) c.requires.function in
    take_may c.self.inside.log.sizes c.self.inside.log.state _ c.args.i
    c.self.invariant.2.owes (subst (λ (b : Shared _ _ _). is_waiting b.state c.args.i ≡ true)
    (sym c.self.view_is) c.requires.waiting)
    (sym (find_is _ _ _ _ _ _ _ _ c.args.f c.args.i c.self.invariant.2.held f)
    ∙ (sym c.find.ensures ∙ c.in-Some.is))

pub invariant_of-self-2 : goal.invariant_of-self-2
invariant_of-self-2 g c = rw c.take.ensures.rest (stands_taken _ _ _ _ _ _ _ c.self.inside.log
    c.note.new.self c.in-Some.c c.args.i _ _ _ _ _ _ _ c.in_ok-note.ensures.state
    c.in_ok-note.ensures.rest c.self.invariant)

pub returns-clause-taken : goal.returns-clause-taken
returns-clause-taken g c =
    let f = subst (λ (b : Shared _ _ _). request_function b.state c.args.i ≡ c.args.f)
    (sym c.self.view_is) c.requires.function in
    let w = find_context _ _ _ _ _ _ _ _ c.args.f c.in-Some.c c.self.invariant.2.held
    (sym c.find.ensures ∙ c.in-Some.is) in
    let is : c.take.result ≡ Some w.context
    = c.take.ensures.taken ∙ ap (λ o. option_map (λ (e : Waiting _). e.context) o) w.entry in
    let first = sym (find_is _ _ _ _ _ _ _ _ c.args.f c.args.i c.self.invariant.2.held f)
    ∙ (sym c.find.ensures ∙ c.in-Some.is) in
    let entry = w.entry ∙ ap (λ (n : ℕ). Some (waiting_of n w.context)) (sym f) in
    let rest = ap (λ (l : Recent ℕ (Waiting _)). l.entries) c.take.ensures.rest in
    let takes = takes_is c.self.inside.log c.note.new.self c.in-Some.c c.args.i w.context _
    c.take.new.self.entries _ _ _ _ _ first entry c.in_ok-note.ensures.state
    c.in_ok-note.ensures.rest rest c.self.view_is in
    rw (is, w.waits.1.noted.number) takes

pub returns-clause-told : goal.returns-clause-told
returns-clause-told g c =
    let w = find_context _ _ _ _ _ _ _ _ c.args.f c.in-Some.c c.self.invariant.2.held
    (sym c.find.ensures ∙ c.in-Some.is) in
    let is : c.take.result ≡ Some w.context
    = c.take.ensures.taken ∙ ap (λ o. option_map (λ (e : Waiting _). e.context) o) w.entry in
    let waits = subst (λ (b : Shared _ _ _). IsWaiting b.state b.started c.in-Some.c c.args.f
    (g.C.Parked.parked w.context) (g.C.Held.pin w.context)) c.self.view_is w.waits.1 in
    rw (is, w.waits.1.noted.number) (w.waits.0, waits)
