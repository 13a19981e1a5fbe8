use Rattle.journal_laws.proofs.Summing.{sum_changed, sum_added, sum_most, sum_same}
use Rattle.journal_laws.proofs.weights.sums_change_by_one_item.Goals as goal

pub returns-clause-changed : goal.returns-clause-changed
returns-clause-changed c = λ f n xs x y h. sum_changed f n xs x y h

pub returns-clause-added : goal.returns-clause-added
returns-clause-added c = λ f xs x. sum_added f xs x

pub returns-clause-most : goal.returns-clause-most
returns-clause-most c = λ f g xs h. sum_most f g xs h

pub returns-clause-same : goal.returns-clause-same
returns-clause-same c = λ f g xs h. sum_same f g xs h
