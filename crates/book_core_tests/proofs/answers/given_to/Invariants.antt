use Rattle.std.proofs.Common.{◌≡◌, take, map, Some}
use Rattle.book_model.specs.Kept.{givens}
use Rattle.book_core_tests.proofs.answers.given_to.Given as goal

abbrev pub invariant-numbers : goal.invariant-numbers
invariant-numbers l = map Some l.list.items ≡ givens l.started (take l.number-index l.numbers)
