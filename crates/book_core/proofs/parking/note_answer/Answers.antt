use Rattle.std.proofs.Common.{subst, sym, ap, ◌∙◌, ◌≡◌, ◌∷◌, IsSome, Some, ℕ, Option}
use Rattle.journal_model.specs.Legal.{after, after_all}
use Rattle.journal_model.specs.declared.event.Event.TheVariants.{Answer, Evict}
use Rattle.book_log.specs.Logged.{Logged}
use Rattle.book_log.proofs.Logging.{two_second, two_state}
use Rattle.book_model.specs.Steps.{evicts}
use Rattle.book_model.proofs.ParkingStates.{first_may}
use Rattle.book_model.proofs.Results.{one_all}
use Rattle.book_core.proofs.parking.note_answer.Goals as goal

pub append-requires-clause-may : goal.append-requires-clause-may
append-requires-clause-may c = first_may c.args.log.now.sizes c.args.log.now.state
    (Answer c.args.i c.args.c c.args.u) (evicts c.args.last) c.requires.may

pub append-requires-in-Some-clause-may : goal.append-requires-in-Some-clause-may
append-requires-in-Some-clause-may c =
    let s = c.args.log.now.sizes in
    let first = Answer c.args.i c.args.c c.args.u in
    let may = subst (λ (o : Option ℕ). IsSome (after_all s c.args.log.now.state
    (first ∷ evicts o))) c.in-Some.is c.requires.may in
    subst (λ z. IsSome (after z c.append.new.self.state (Evict c.in-Some.e)))
    (sym (ap (λ (v : Logged). v.sizes) c.append.ensures.rest))
    (two_second s c.args.log.now.state c.append.new.self.state first (Evict c.in-Some.e)
    c.append.ensures.state may)

pub returns-in-None-clause-state : goal.returns-in-None-clause-state
returns-in-None-clause-state c = rw c.in-None.is (one_all c.args.log.now.sizes
    c.args.log.now.state (Answer c.args.i c.args.c c.args.u) ∙ c.append.ensures.state)

pub returns-in-Some-clause-state : goal.returns-in-Some-clause-state
returns-in-Some-clause-state c =
    let s = c.args.log.now.sizes in
    let second = subst (λ z. after z c.append.new.self.state (Evict c.in-Some.e)
    ≡ Some c.append-in-Some.new.self.state) (ap (λ (v : Logged). v.sizes) c.append.ensures.rest)
    c.append-in-Some.ensures.state in
    rw c.in-Some.is (two_state s c.args.log.now.state c.append.new.self.state
    c.append-in-Some.new.self.state (Answer c.args.i c.args.c c.args.u) (Evict c.in-Some.e)
    c.append.ensures.state second)
