use Rattle.std.proofs.Common.{subst, sym, ap, ◌∙◌, ℕ, ◌≡◌, IsSome, Some}
use Rattle.journal_model.specs.Legal.{after}
use Rattle.journal_model.specs.declared.event.Event.TheVariants.{Back}
use Rattle.book_log.specs.Logged.{Logged}
use Rattle.book_model.specs.Shared.{Shared}
use Rattle.book_model.proofs.Holds.{IsNext}
use Rattle.book_model.proofs.Results.{give_may, returns_none, returns_some}
use Rattle.book_model.proofs.Results.{stands_back, next_of, leads_of}
use Rattle.book_core.proofs.book.Book.returned.Goals as goal

pub append-requires-clause-may : goal.append-requires-clause-may
append-requires-clause-may g c =
    let met = g.met.H.Stock g.world.𝓛 g.world.𝓜 g.world.𝓡
    ((λ s x. x), (λ x. x), (λ x. x), λ x. x) in
    subst (λ (v : Logged). IsSome (after v.sizes v.state (Back c.count-n.result)))
    (sym c.reserve.ensures.rest) (give_may g.T.Space.Space.takes_frames c.self.inside.log.sizes
    c.self.inside.log.state c.count-n.result (g.T.Store.number c.args.spares) _ _ _
    c.self.invariant.2.owes (ap (λ (b : Shared _ _ _). b.sizes.root) c.self.view_is
    ∙ c.requires.root) (λ z. (g.met.T.Store.none_are_taken z).0 c.args.spares) c.count-n.ensures
    c.if-n-eq0.false (c.self.invariant.2.held.free c.if-self.false) c.give_back.ensures
    (met.free_is_few c.give_back.new.shelf))

pub returns-then-n-eq0-clause-returned : goal.returns-then-n-eq0-clause-returned
returns-then-n-eq0-clause-returned g c = returns_none g.H.Stock.stocked c.self.inside.log
    c.reserve.new.self (g.T.Store.number c.args.spares) _ _ _ _ _ c.give_back.new.shelf _ _
    c.reserve.ensures.rest (sym c.count-n.ensures ∙ c.if-n-eq0.true) c.give_back.ensures
    c.self.view_is

pub invariant_of-self-2 : goal.invariant_of-self-2
invariant_of-self-2 g c =
    let next = next_of c.self.inside.log c.reserve.new.self c.append.new.self
    (Back c.count-n.result) _ c.reserve.ensures.rest c.append.ensures.rest in
    let leads = leads_of c.self.inside.log c.reserve.new.self (Back c.count-n.result)
    c.append.new.self.state c.reserve.ensures.rest c.append.ensures.state in
    stands_back _ _ _ _ _ _ _ c.self.inside.log c.append.new.self
    (g.T.Store.number c.args.spares) _ _ _ _ _ _ _ c.give_back.new.shelf _
    (subst (λ (n : ℕ). IsNext c.self.inside.log c.append.new.self (Back n)) c.count-n.ensures next)
    (subst (λ (n : ℕ). after c.self.inside.log.sizes c.self.inside.log.state (Back n)
    ≡ Some c.append.new.self.state) c.count-n.ensures leads) c.give_back.ensures c.self.invariant

pub returns-clause-returned : goal.returns-clause-returned
returns-clause-returned g c =
    let next = next_of c.self.inside.log c.reserve.new.self c.append.new.self
    (Back c.count-n.result) _ c.reserve.ensures.rest c.append.ensures.rest in
    let leads = leads_of c.self.inside.log c.reserve.new.self (Back c.count-n.result)
    c.append.new.self.state c.reserve.ensures.rest c.append.ensures.state in
    returns_some g.H.Stock.stocked c.self.inside.log c.append.new.self
    (g.T.Store.number c.args.spares) _ _ _ _ _ c.give_back.new.shelf _ _
    (subst (λ (n : ℕ). IsNext c.self.inside.log c.append.new.self (Back n)) c.count-n.ensures next)
    (subst (λ (n : ℕ). after c.self.inside.log.sizes c.self.inside.log.state (Back n)
    ≡ Some c.append.new.self.state) c.count-n.ensures leads)
    (λ z. c.if-n-eq0.false (c.count-n.ensures ∙ z)) c.give_back.ensures c.self.view_is
