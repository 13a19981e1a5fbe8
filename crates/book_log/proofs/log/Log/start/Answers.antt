use Rattle.std.proofs.Common.{rules, subst, sym, ap, ◌∙◌, ◌≡◌, ◌+◌, ◌++◌, ◌∷◌, [], length}
use Rattle.journal_model.specs.declared.event.Event.TheVariants.{Start}
use Rattle.book_log.specs.Logged.{Logged, replayed}
use Rattle.book_log.proofs.Logging.{starting, requested}
use Rattle.book_log.proofs.log.Log.start.Goals as goal

pub overflow_add-i : goal.overflow_add-i
overflow_add-i c =
    let s = starting _ c.args.self.now c.args.one.now
    (subst (λ (v : Logged). v ≡ record c.args.self.now { room = v.room }) (sym c.self.view_is)
    c.reserve.ensures.rest) c.self.invariant.0 c.requires.may in
    let few = s.few in let most = c.self.invariant.0.most in
    let same : c.len.result ≡ length c.self.inside.started.items = search rules in
    rw same (search rules)

pub invariant_of-self-2 : goal.invariant_of-self-2
invariant_of-self-2 c =
    let s = starting _ c.args.self.now c.args.one.now
    (subst (λ (v : Logged). v ≡ record c.args.self.now { room = v.room }) (sym c.self.view_is)
    c.reserve.ensures.rest) c.self.invariant.0 c.requires.may in
    let started : c.push_reserved.new.self.items
    ≡ c.self.inside.started.items ++ c.args.one.now ∷ [] = search rules in
    let events : c.push_reserved-2.new.self.items ≡ c.self.inside.events.items
    ++ Start (length c.self.inside.started.items + 1) c.args.one.now.function
    c.args.one.now.given.clock ∷ [] = search rules in
    rw (started, events, s.state) (s.logged, c.self.invariant.1 ∙ sym s.drawn)

pub returns-clause-started : goal.returns-clause-started
returns-clause-started c =
    let s = starting _ c.args.self.now c.args.one.now
    (subst (λ (v : Logged). v ≡ record c.args.self.now { room = v.room }) (sym c.self.view_is)
    c.reserve.ensures.rest) c.self.invariant.0 c.requires.may in
    let started : c.push_reserved.new.self.items
    ≡ c.self.inside.started.items ++ c.args.one.now ∷ [] = search rules in
    let events : c.push_reserved-2.new.self.items ≡ c.self.inside.events.items
    ++ Start (length c.self.inside.started.items + 1) c.args.one.now.function
    c.args.one.now.given.clock ∷ [] = search rules in
    requested _ c.args.self.now c.args.one.now _ _ _ _
    (subst (λ (v : Logged). v ≡ record c.args.self.now { room = v.room }) (sym c.self.view_is)
    c.reserve.ensures.rest) events (ap (replayed c.self.inside.sizes) events ∙ s.state) started
