use Rattle.std.proofs.Common.{◌∙◌, ap, map, sym, Some}
use Rattle.book_core_tests.proofs.Givens.{no_givens, one_given}
use Rattle.book_core_tests.proofs.answers.given_to.Goals as goal

pub numbers-init : goal.numbers-init
numbers-init c = ap (map Some) c.new-list.ensures.items ∙ no_givens c.args.started.now

pub numbers-preserved : goal.numbers-preserved
numbers-preserved c = one_given c.args.started.now c.args.numbers.now c.numbers.number-index _
    c.numbers.list.items _ c.in_ok-given.field-0 c.in-Some.given c.numbers-test.true
    c.in_ok-given.ensures (sym c.in-Some.is) c.in_ok-add.ensures c.numbers.invariant
