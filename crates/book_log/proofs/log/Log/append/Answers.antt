use Rattle.std.proofs.Common.{subst, sym, ◌≡◌, ◌++◌, ◌∷◌, [], Some, rules}
use Rattle.journal_model.specs.Legal.{after}
use Rattle.book_log.specs.Logged.{Logged, replayed}
use Rattle.book_log.proofs.Logging.{going}
use Rattle.book_log.proofs.log.Log.append.Goals as goal

pub overflow_add-self : goal.overflow_add-self
overflow_add-self c =
    let g = going _ _ _ c.self.view_is c.self.invariant.0 c.requires.may c.requires.starts_none in
    let few = g.few in let was = c.self.invariant.1 in let most = c.self.invariant.0.most in
    let d = c.drawn_by.ensures in rw (was, d) (search rules)

pub invariant_of-self : goal.invariant_of-self
invariant_of-self c =
    let g = going _ _ _ c.self.view_is c.self.invariant.0 c.requires.may c.requires.starts_none in
    rw c.push_reserved.ensures.items
    (g.logged, rw (c.self.invariant.1, c.drawn_by.ensures) (sym g.drawn))

pub returns-clause-state : goal.returns-clause-state
returns-clause-state c =
    let g = going _ _ _ c.self.view_is c.self.invariant.0 c.requires.may c.requires.starts_none in
    rw c.push_reserved.ensures.items (subst (λ (v : Logged). after v.sizes v.state c.args.event
    ≡ Some (replayed c.self.inside.sizes (c.self.inside.events.items ++ c.args.event ∷ [])))
    c.self.view_is g.state)
