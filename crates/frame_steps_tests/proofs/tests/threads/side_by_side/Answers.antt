use Rattle.std.proofs.Common.{rules, sym, subst}
use Rattle.frame_words.specs.Holders.{view}
use Rattle.frame_steps_tests.specs.Mids.{IsShared}
use Rattle.frame_steps_tests.proofs.Visits.{both_shared}
use Rattle.frame_steps_tests.proofs.tests.threads.side_by_side.Goals as goal

pub returns-clause-shared : goal.returns-clause-shared
returns-clause-shared g c =
    let all = c.join-all.result.0.0 in
    let other = c.join-all.result.1.0 in
    let one : IsShared (view all) = search rules in
    let two : IsShared (view other) = search rules in
    subst IsShared (sym c.join.ensures.view) (both_shared (view all) (view other) one two)
