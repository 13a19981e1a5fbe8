use Rattle.std.proofs.Common.{sym, ◌∙◌, refl}
use Rattle.journal_model.specs.declared.event.Event.TheVariants.{Built, Keep, Dup, Drop}
use Rattle.book_model.proofs.KeepsLayers.{stepped, twice_owes, room_owes, full_owes, last_is}
use Rattle.book_model.proofs.KeepsLayers.{dup_may, keep_may, drop_may, drop_owes}
use Rattle.book_model.proofs.KeepsLayers.{stands_twice, stands_kept, stands_pushed}
use Rattle.book_model.proofs.KeepsLayers.{keeps_twice, keeps_room, keeps_full}
use Rattle.book_core.proofs.book.Book.keep.Goals as goal

pub append-requires-then-has-clause-may : goal.append-requires-then-has-clause-may
append-requires-then-has-clause-may g c =
    let built = stepped c.self.inside.log c.reserve.new.self c.append.new.self
    (Built c.args.c c.in-Some.k c.args.pages) _ c.reserve.ensures.rest c.append.ensures.state
    c.append.ensures.rest in
    dup_may c.append.new.self.sizes c.append.new.self.state c.in-Some.k (twice_owes _ _ _ _ _ _ _
    c.self.inside.log c.append.new.self.state c.args.c c.in-Some.k c.args.pages _ _
    c.self.inside.kept _ _ _ c.self.invariant built.leads (sym c.has.ensures ∙ c.if-has.true))

pub invariant_of-self-then-has : goal.invariant_of-self-then-has
invariant_of-self-then-has g c =
    let built = stepped c.self.inside.log c.reserve.new.self c.append.new.self
    (Built c.args.c c.in-Some.k c.args.pages) _ c.reserve.ensures.rest c.append.ensures.state
    c.append.ensures.rest in
    let dup = stepped c.append.new.self c.append.new.self c.append-then-has.new.self
    (Dup c.in-Some.k) _ refl c.append-then-has.ensures.state c.append-then-has.ensures.rest in
    stands_twice _ _ _ _ _ _ _ c.self.inside.log c.append.new.self c.append-then-has.new.self
    c.args.c c.in-Some.k c.args.pages _ _ _ _ _ _ _ built dup c.self.invariant

pub returns-then-has-clause-kept : goal.returns-then-has-clause-kept
returns-then-has-clause-kept g c =
    let number = sym c.number.ensures ∙ c.in-Some.is in
    let built = stepped c.self.inside.log c.reserve.new.self c.append.new.self
    (Built c.args.c c.in-Some.k c.args.pages) _ c.reserve.ensures.rest c.append.ensures.state
    c.append.ensures.rest in
    let dup = stepped c.append.new.self c.append.new.self c.append-then-has.new.self
    (Dup c.in-Some.k) _ refl c.append-then-has.ensures.state c.append-then-has.ensures.rest in
    rw number (keeps_twice c.self.inside.log c.append.new.self c.append-then-has.new.self c.args.c
    c.in-Some.k c.args.pages c.args.layer _ _ _ _ _ _ built dup
    (sym c.has.ensures ∙ c.if-has.true) c.self.view_is)

pub append-requires-in-None-2-clause-may : goal.append-requires-in-None-2-clause-may
append-requires-in-None-2-clause-may g c =
    let built = stepped c.self.inside.log c.reserve.new.self c.append-in-None.new.self
    (Built c.args.c c.in-Some.k c.args.pages) _ c.reserve.ensures.rest
    c.append-in-None.ensures.state c.append-in-None.ensures.rest in
    keep_may c.append-in-None.new.self.sizes c.append-in-None.new.self.state c.in-Some.k
    (room_owes _ _ _ _ _ _ _ c.self.inside.log c.append-in-None.new.self.state c.args.c
    c.in-Some.k c.args.pages _ _ c.self.inside.kept _ _ _ c.self.invariant built.leads
    (sym c.has.ensures ∙ c.if-has.false) (sym c.in_ok-keep.ensures.lost ∙ c.in-None.is))

pub invariant_of-self-in-None : goal.invariant_of-self-in-None
invariant_of-self-in-None g c =
    let number = sym c.number.ensures ∙ c.in-Some.is in
    let fit = rw number at c.requires.layer in
    let built = stepped c.self.inside.log c.reserve.new.self c.append-in-None.new.self
    (Built c.args.c c.in-Some.k c.args.pages) _ c.reserve.ensures.rest
    c.append-in-None.ensures.state c.append-in-None.ensures.rest in
    let keep = stepped c.append-in-None.new.self c.append-in-None.new.self
    c.append-in-None-2.new.self (Keep c.in-Some.k) _ refl c.append-in-None-2.ensures.state
    c.append-in-None-2.ensures.rest in
    rw c.in_ok-keep.ensures.kept (stands_kept _ _ _ _ _ _ _ c.self.inside.log
    c.append-in-None.new.self c.append-in-None-2.new.self c.args.c c.in-Some.k c.args.pages _
    c.args.layer _ c.self.inside.kept _ _ _ built keep
    (sym c.in_ok-keep.ensures.lost ∙ c.in-None.is) (c.requires.grounds, fit.1)
    c.self.invariant)

pub append-requires-in-Some-2-2-clause-may : goal.append-requires-in-Some-2-2-clause-may
append-requires-in-Some-2-2-clause-may g c =
    let built = stepped c.self.inside.log c.reserve.new.self c.append-in-Some-2.new.self
    (Built c.args.c c.in-Some.k c.args.pages) _ c.reserve.ensures.rest
    c.append-in-Some-2.ensures.state c.append-in-Some-2.ensures.rest in
    let out = sym c.in_ok-keep.ensures.lost ∙ c.in-Some-2.is in
    drop_may c.append-in-Some-2.new.self.sizes c.append-in-Some-2.new.self.state c.in-Some-2.j
    c.in-Some.k (full_owes _ _ _ _ _ _ _ c.self.inside.log c.append-in-Some-2.new.self.state
    c.args.c c.in-Some.k c.args.pages _ _ _ c.self.inside.kept _ _ _ c.self.invariant built.leads
    (sym c.has.ensures ∙ c.if-has.false) out) (last_is _ _ _ _ _ _ _ c.self.inside.log
    c.append-in-Some-2.new.self.state c.args.c c.in-Some.k c.args.pages _ _ _ c.self.inside.kept
    _ _ _ c.self.invariant built.leads out)

pub append-requires-in-Some-2-3-clause-may : goal.append-requires-in-Some-2-3-clause-may
append-requires-in-Some-2-3-clause-may g c =
    let built = stepped c.self.inside.log c.reserve.new.self c.append-in-Some-2.new.self
    (Built c.args.c c.in-Some.k c.args.pages) _ c.reserve.ensures.rest
    c.append-in-Some-2.ensures.state c.append-in-Some-2.ensures.rest in
    let out = sym c.in_ok-keep.ensures.lost ∙ c.in-Some-2.is in
    keep_may c.append-in-Some-2-2.new.self.sizes c.append-in-Some-2-2.new.self.state c.in-Some.k
    (drop_owes c.append-in-Some-2.new.self.sizes c.append-in-Some-2.new.self.state
    c.append-in-Some-2-2.new.self.state c.in-Some-2.j c.in-Some.k (full_owes _ _ _ _ _ _ _
    c.self.inside.log c.append-in-Some-2.new.self.state c.args.c c.in-Some.k c.args.pages _ _ _
    c.self.inside.kept _ _ _ c.self.invariant built.leads
    (sym c.has.ensures ∙ c.if-has.false) out) c.append-in-Some-2-2.ensures.state)

pub invariant_of-self-in-Some-2 : goal.invariant_of-self-in-Some-2
invariant_of-self-in-Some-2 g c =
    let number = sym c.number.ensures ∙ c.in-Some.is in
    let fit = rw number at c.requires.layer in
    let built = stepped c.self.inside.log c.reserve.new.self c.append-in-Some-2.new.self
    (Built c.args.c c.in-Some.k c.args.pages) _ c.reserve.ensures.rest
    c.append-in-Some-2.ensures.state c.append-in-Some-2.ensures.rest in
    let drop = stepped c.append-in-Some-2.new.self c.append-in-Some-2.new.self
    c.append-in-Some-2-2.new.self (Drop c.in-Some-2.j) _ refl c.append-in-Some-2-2.ensures.state
    c.append-in-Some-2-2.ensures.rest in
    let keep = stepped c.append-in-Some-2-2.new.self c.append-in-Some-2-2.new.self
    c.append-in-Some-2-3.new.self (Keep c.in-Some.k) _ refl c.append-in-Some-2-3.ensures.state
    c.append-in-Some-2-3.ensures.rest in
    rw c.in_ok-keep.ensures.kept (stands_pushed _ _ _ _ _ _ _ c.self.inside.log
    c.append-in-Some-2.new.self c.append-in-Some-2-2.new.self c.append-in-Some-2-3.new.self
    c.args.c c.in-Some.k c.args.pages _ (c.in-Some-2.j, c.in-Some-2.last) c.args.layer _
    c.self.inside.kept _ _ _ built drop keep (sym c.in_ok-keep.ensures.lost ∙ c.in-Some-2.is)
    (c.requires.grounds, fit.1) c.self.invariant)

pub returns-in-None-clause-kept : goal.returns-in-None-clause-kept
returns-in-None-clause-kept g c =
    let number = sym c.number.ensures ∙ c.in-Some.is in
    let built = stepped c.self.inside.log c.reserve.new.self c.append-in-None.new.self
    (Built c.args.c c.in-Some.k c.args.pages) _ c.reserve.ensures.rest
    c.append-in-None.ensures.state c.append-in-None.ensures.rest in
    let keep = stepped c.append-in-None.new.self c.append-in-None.new.self
    c.append-in-None-2.new.self (Keep c.in-Some.k) _ refl c.append-in-None-2.ensures.state
    c.append-in-None-2.ensures.rest in
    rw (number, c.in_ok-keep.ensures.kept) (keeps_room c.self.inside.log c.append-in-None.new.self
    c.append-in-None-2.new.self c.args.c c.in-Some.k c.args.pages c.args.layer _
    c.self.inside.kept _ _ _ _ built keep c.self.invariant.1
    (sym c.has.ensures ∙ c.if-has.false) (sym c.in_ok-keep.ensures.lost ∙ c.in-None.is)
    c.self.view_is)

pub returns-in-Some-2-clause-kept : goal.returns-in-Some-2-clause-kept
returns-in-Some-2-clause-kept g c =
    let number = sym c.number.ensures ∙ c.in-Some.is in
    let built = stepped c.self.inside.log c.reserve.new.self c.append-in-Some-2.new.self
    (Built c.args.c c.in-Some.k c.args.pages) _ c.reserve.ensures.rest
    c.append-in-Some-2.ensures.state c.append-in-Some-2.ensures.rest in
    let drop = stepped c.append-in-Some-2.new.self c.append-in-Some-2.new.self
    c.append-in-Some-2-2.new.self (Drop c.in-Some-2.j) _ refl c.append-in-Some-2-2.ensures.state
    c.append-in-Some-2-2.ensures.rest in
    let keep = stepped c.append-in-Some-2-2.new.self c.append-in-Some-2-2.new.self
    c.append-in-Some-2-3.new.self (Keep c.in-Some.k) _ refl c.append-in-Some-2-3.ensures.state
    c.append-in-Some-2-3.ensures.rest in
    rw (number, c.in_ok-keep.ensures.kept) (keeps_full c.self.inside.log
    c.append-in-Some-2.new.self c.append-in-Some-2-2.new.self c.append-in-Some-2-3.new.self
    c.args.c c.in-Some.k c.args.pages (c.in-Some-2.j, c.in-Some-2.last) c.args.layer _
    c.self.inside.kept _ _ _ _ built drop keep c.self.invariant.1
    (sym c.has.ensures ∙ c.if-has.false) (sym c.in_ok-keep.ensures.lost ∙ c.in-Some-2.is)
    c.self.view_is)
