use Rattle.std.proofs.Common.{◌+◌, ◌≤◌, ℕ, List, length, sym, ap, subst, ◌∙◌, arith}
use Rattle.frame_model.specs.declared.view.View.{View}
use Rattle.frame_model.specs.Views.{OwnsDataAlone}
use Rattle.frame_steps_tests.proofs.Closing as closing
use Rattle.frame_steps_tests.proofs.tests.closing.closed.Goals as goal

pub join-requires-clause-few : goal.join-requires-clause-few
join-requires-clause-few c =
    let a = ap (λ (xs : List ℕ). length xs) c.requires.parted.references in
    let b = ap (λ (xs : List ℕ). length xs) c.requires.parted.other_references in
    omega arith

pub tell_whole-requires-clause-alone : goal.tell_whole-requires-clause-alone
tell_whole-requires-clause-alone c =
    subst OwnsDataAlone (sym c.join.ensures.view)
    (closing.alone c.args.h.seat.me.0.view c.args.other.seat.me.0.view c.requires.parted)

pub tell_whole-requires-clause-whole : goal.tell_whole-requires-clause-whole
tell_whole-requires-clause-whole c =
    ap (λ (v : View). v.stake) c.join.ensures.view
    ∙ closing.whole c.args.h.seat.me.0.view c.args.other.seat.me.0.view c.requires.parted
