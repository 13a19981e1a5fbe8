use Rattle.std.proofs.Common.{◌*◌, replicate, refl}
use Rattle.frame_words.proofs.Calls.{opens}
use Rattle.frame_laws.specs.History.{new_table}
use Rattle.frame_laws.proofs.Unchanged.{turn_kept, turns_kept}
use Rattle.frame_laws.proofs.runs.steps_keep_the_rule.Goals as goal

pub returns-clause-one : goal.returns-clause-one
returns-clause-one c = turn_kept

pub returns-clause-many : goal.returns-clause-many
returns-clause-many c = turns_kept

pub returns-clause-new : goal.returns-clause-new
returns-clause-new c = λ n ts most may.
    turns_kept n (new_table n) ts (opens n (replicate (n * 513) 0) refl most) may
