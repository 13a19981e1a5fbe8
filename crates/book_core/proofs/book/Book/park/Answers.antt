use Rattle.std.proofs.Common.{◌≤◌, List, ◌∷◌, length, sym, subst}
use Rattle.journal_model.specs.declared.event.Event.TheVariants.{Answer}
use Rattle.space_api.specs.declared.given.Given.{Given}
use Rattle.book_model.specs.Steps.{evicts}
use Rattle.book_model.proofs.ParkingHeld.{absent}
use Rattle.book_model.proofs.ParkingResults.{some_served, room_for, first_asked}
use Rattle.book_model.proofs.ParkingResults.{ends_for, last_asked, stands_parked, parks_is}
use Rattle.book_core.proofs.book.Book.park.Goals as goal

pub earlier-u-requires-clause-some : goal.earlier-u-requires-clause-some
earlier-u-requires-clause-some g c = subst (λ (gs : List Given). 1 ≤ length gs)
    (sym c.served.ensures) (some_served c.args.i (g.C.Parked.parked c.args.context)
    (g.C.Held.pin c.args.context) c.args.self.now c.requires.may)

pub park-requires-clause-absent : goal.park-requires-clause-absent
park-requires-clause-absent g c = absent _ _ _ _ _ _ _ _ c.args.i c.id-c.result
    (g.C.Parked.parked c.args.context) (g.C.Held.pin c.args.context) c.args.self.now
    c.self.invariant.2.held c.self.view_is c.requires.may c.id-c.ensures

pub note_answer-requires-clause-may : goal.note_answer-requires-clause-may
note_answer-requires-clause-may g c =
    let told = g.C.Parked.parked c.args.context in
    let pin = g.C.Held.pin c.args.context in
    let room = room_for _ _ _ _ _ _ _ c.self.inside.log c.self.inside.idle _ _ _ _ c.args.i
    c.id-c.result c.earlier-u.result c.in-Ok.last c.parted-e.result.0 told pin
    c.served.result.now c.args.self.now c.self.invariant.0 c.self.invariant.2 c.self.view_is
    c.requires.may c.id-c.ensures c.earlier-u.ensures c.served.ensures c.in-Ok.ensures.lost
    c.parted-e.ensures.number in
    first_asked _ _ _ _ _ _ _ c.self.inside.log c.reserve.new.self _ _ _ _ _ _ c.args.i
    c.id-c.result c.earlier-u.result c.parted-e.result.0 told pin c.reserve.ensures.rest room

pub note_park-requires-clause-may : goal.note_park-requires-clause-may
note_park-requires-clause-may g c =
    let met = g.met.H.Stock g.world.𝓛 g.world.𝓜 g.world.𝓡
    ((λ s x. x), (λ x. x), (λ x. x), λ x. x) in
    let ends = ends_for _ _ _ _ _ _ _ c.self.inside.log c.reserve.new.self c.note_answer.new.log
    c.self.inside.idle _ _ _ c.give_back.new.shelf _ g.T.Space.Space.takes_frames c.args.i
    c.id-c.result c.earlier-u.result c.count-n.result (g.T.Store.number c.args.spares) _
    c.in-Ok.last c.parted-e.result.0 c.args.context c.served.result.now c.args.self.now
    c.self.invariant.0 c.self.invariant.2 c.self.view_is c.requires.may c.requires.grounds
    c.if-self.false c.requires.root (λ z. (g.met.T.Store.none_are_taken z).0 c.args.spares)
    c.id-c.ensures c.earlier-u.ensures c.served.ensures c.count-n.ensures c.in-Ok.ensures.lost
    c.parted-e.ensures.number c.reserve.ensures.rest c.note_answer.ensures.state
    c.note_answer.ensures.rest c.give_back.ensures (met.free_is_few c.give_back.new.shelf) in
    last_asked _ _ _ _ _ _ _ c.note_answer.new.log c.id-c.result c.count-n.result _ _ _ _ _ _ _
    ends

pub invariant_of-self-in-Ok : goal.invariant_of-self-in-Ok
invariant_of-self-in-Ok g c =
    let met = g.met.H.Stock g.world.𝓛 g.world.𝓜 g.world.𝓡
    ((λ s x. x), (λ x. x), (λ x. x), λ x. x) in
    let ends = ends_for _ _ _ _ _ _ _ c.self.inside.log c.reserve.new.self c.note_answer.new.log
    c.self.inside.idle _ _ _ c.give_back.new.shelf _ g.T.Space.Space.takes_frames c.args.i
    c.id-c.result c.earlier-u.result c.count-n.result (g.T.Store.number c.args.spares) _
    c.in-Ok.last c.parted-e.result.0 c.args.context c.served.result.now c.args.self.now
    c.self.invariant.0 c.self.invariant.2 c.self.view_is c.requires.may c.requires.grounds
    c.if-self.false c.requires.root (λ z. (g.met.T.Store.none_are_taken z).0 c.args.spares)
    c.id-c.ensures c.earlier-u.ensures c.served.ensures c.count-n.ensures c.in-Ok.ensures.lost
    c.parted-e.ensures.number c.reserve.ensures.rest c.note_answer.ensures.state
    c.note_answer.ensures.rest c.give_back.ensures (met.free_is_few c.give_back.new.shelf) in
    stands_parked _ _ _ _ _ _ _ c.self.inside.log c.reserve.new.self c.note_answer.new.log
    c.note_park.new.log c.self.inside.idle c.park.new.self c.id-c.result c.count-n.result
    c.function.result _ c.args.context _ _ _ _ _
    (Answer c.args.i c.id-c.result c.earlier-u.result ∷ evicts c.parted-e.result.0) ends
    c.reserve.ensures.rest c.note_answer.ensures.rest c.note_park.ensures.state
    c.note_park.ensures.rest c.in-Ok.ensures.parked c.function.ensures c.self.invariant.0
    c.self.invariant.1

pub returns-in-Ok-clause-parked : goal.returns-in-Ok-clause-parked
returns-in-Ok-clause-parked g c = parks_is g.H.Stock.stocked c.self.inside.log
    c.reserve.new.self c.note_answer.new.log c.note_park.new.log c.self.inside.idle
    c.park.new.self _ _ _ c.give_back.new.shelf _ c.args.i c.id-c.result c.earlier-u.result
    c.count-n.result c.function.result (g.T.Store.number c.args.spares) _ c.in-Ok.last
    c.parted-e.result.0 c.parted-e.result.1 (g.C.Parked.parked c.args.context) c.args.context
    c.served.result.now c.args.self.now c.self.invariant.0 c.id-c.ensures c.earlier-u.ensures
    c.served.ensures c.count-n.ensures c.function.ensures c.in-Ok.ensures.lost
    c.parted-e.ensures.number c.parted-e.ensures.value c.reserve.ensures.rest
    c.note_answer.ensures.state c.note_answer.ensures.rest c.note_park.ensures.state
    c.note_park.ensures.rest c.in-Ok.ensures.parked c.give_back.ensures c.self.view_is
