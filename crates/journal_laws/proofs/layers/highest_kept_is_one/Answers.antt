use Rattle.journal_laws.proofs.Stacks.{highest_is, is_highest, highest_none, none_highest}
use Rattle.journal_laws.proofs.layers.highest_kept_is_one.Goals as goal

pub returns-clause-some : goal.returns-clause-some
returns-clause-some c = λ kept stack k. (highest_is kept stack k, is_highest kept stack k)

pub returns-clause-none : goal.returns-clause-none
returns-clause-none c = λ kept stack. (highest_none kept stack, none_highest kept stack)
