use Rattle.std.proofs.Common.{subst, sym, ap, ◌∙◌, ◌≡◌, ◌∷◌, IsSome, Some, List}
use Rattle.journal_model.specs.Legal.{after, after_all}
use Rattle.journal_model.specs.declared.event.Event.{Event}
use Rattle.journal_model.specs.declared.event.Event.TheVariants.{Park, Back}
use Rattle.book_log.specs.Logged.{Logged}
use Rattle.book_log.proofs.Logging.{two_second, two_state}
use Rattle.book_model.specs.Steps.{backs}
use Rattle.book_model.proofs.ParkingStates.{first_may, backs_none, backs_some}
use Rattle.book_model.proofs.Results.{one_all}
use Rattle.book_core.proofs.parking.note_park.Goals as goal

pub append-requires-clause-may : goal.append-requires-clause-may
append-requires-clause-may c = first_may c.args.log.now.sizes c.args.log.now.state
    (Park c.args.c) (backs c.args.n) c.requires.may

pub returns-then-n-eq0-clause-state : goal.returns-then-n-eq0-clause-state
returns-then-n-eq0-clause-state c =
    ap (λ (es : List Event). after_all c.args.log.now.sizes c.args.log.now.state
    (Park c.args.c ∷ es)) (backs_none c.args.n c.if-n-eq0.true)
    ∙ (one_all c.args.log.now.sizes c.args.log.now.state (Park c.args.c)
    ∙ c.append.ensures.state)

pub append-requires-2-clause-may : goal.append-requires-2-clause-may
append-requires-2-clause-may c =
    let s = c.args.log.now.sizes in
    let may = subst (λ (es : List Event). IsSome (after_all s c.args.log.now.state
    (Park c.args.c ∷ es))) (backs_some c.args.n c.if-n-eq0.false) c.requires.may in
    subst (λ z. IsSome (after z c.append.new.self.state (Back c.args.n)))
    (sym (ap (λ (v : Logged). v.sizes) c.append.ensures.rest))
    (two_second s c.args.log.now.state c.append.new.self.state (Park c.args.c) (Back c.args.n)
    c.append.ensures.state may)

pub returns-clause-state : goal.returns-clause-state
returns-clause-state c =
    let s = c.args.log.now.sizes in
    let second = subst (λ z. after z c.append.new.self.state (Back c.args.n)
    ≡ Some c.append-2.new.self.state) (ap (λ (v : Logged). v.sizes) c.append.ensures.rest)
    c.append-2.ensures.state in
    ap (λ (es : List Event). after_all s c.args.log.now.state (Park c.args.c ∷ es))
    (backs_some c.args.n c.if-n-eq0.false)
    ∙ two_state s c.args.log.now.state c.append.new.self.state c.append-2.new.self.state
    (Park c.args.c) (Back c.args.n) c.append.ensures.state second
