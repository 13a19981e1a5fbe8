use Rattle.std.proofs.Common.{subst, sym, ap, ◌∙◌, ◌≡◌, IsSome, Some}
use Rattle.journal_model.specs.Legal.{after}
use Rattle.book_log.specs.Logged.{Logged}
use Rattle.book_log.proofs.Logging.{two_first, two_second, two_state}
use Rattle.book_log.proofs.log.Log.note_both.Goals as goal

pub append-requires-clause-may : goal.append-requires-clause-may
append-requires-clause-may c = subst (λ (v : Logged). IsSome (after v.sizes v.state c.args.first))
    (sym c.reserve.ensures.rest) (two_first _ _ _ c.args.second c.requires.may)

pub append-requires-2-clause-may : goal.append-requires-2-clause-may
append-requires-2-clause-may c =
    let first = subst (λ (v : Logged). after v.sizes v.state c.args.first
    ≡ Some c.append.new.self.state) c.reserve.ensures.rest c.append.ensures.state in
    subst (λ z. IsSome (after z c.append.new.self.state c.args.second))
    (sym (ap (λ (v : Logged). v.sizes) c.append.ensures.rest
    ∙ ap (λ (v : Logged). v.sizes) c.reserve.ensures.rest))
    (two_second _ _ _ _ _ first c.requires.may)

pub returns-clause-state : goal.returns-clause-state
returns-clause-state c =
    let first = subst (λ (v : Logged). after v.sizes v.state c.args.first
    ≡ Some c.append.new.self.state) c.reserve.ensures.rest c.append.ensures.state in
    let second = subst (λ z. after z c.append.new.self.state c.args.second
    ≡ Some c.append-2.new.self.state) (ap (λ (v : Logged). v.sizes) c.append.ensures.rest
    ∙ ap (λ (v : Logged). v.sizes) c.reserve.ensures.rest) c.append-2.ensures.state in
    two_state _ _ _ _ _ _ first second
