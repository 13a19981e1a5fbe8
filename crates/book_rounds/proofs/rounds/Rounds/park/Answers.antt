use Rattle.std.proofs.Common.{◌+◌, ◌<◌, ◌≤◌, List, length, subst}
use Rattle.journal_model.specs.Extents.{Extents}
use Rattle.space_api.specs.declared.given.Given.{Given}
use Rattle.book_rounds.proofs.Working.{park_may, unpinned}
use Rattle.book_rounds.proofs.rounds.Rounds.park.Goals as goal

pub park-requires-clause-may : goal.park-requires-clause-may
park-requires-clause-may g c κs within =
    let met = g.met.T.Space.Space g.world.𝓛 g.world.𝓜 g.world.𝓡
    ((λ s x. x), (λ x. x), (λ x. x), λ x. x) in
    let loose =
    met.finished_is_free c.in_ok-waiter.waiter.space c.in_ok-waiter.waiter.finished in
    let room = subst (λ (x : Extents). 1 ≤ x.idle) c.sizes.ensures
    (c.may_rest-may.ensures.room c.if-not-may.false) in
    let usable = subst (λ (l : List Given). length l + 1 < c.args.self.now.book.sizes.uses)
    c.deref.ensures.value (subst (λ (x : Extents). length c.deref.result.now + 1 < x.uses)
    c.sizes.ensures (c.may_rest-may.ensures.usable c.if-not-may.false)) in
    unpinned c.args.self.now.book c.args.i _ _ loose (park_may c.args.self.now.book c.args.i _ _
    c.args.one.now c.in_ok-given.given c.is_sound.ensures.held.log c.requires.served
    c.requires.there c.in_ok-given.ensures c.in_ok-waiter.ensures room usable)
