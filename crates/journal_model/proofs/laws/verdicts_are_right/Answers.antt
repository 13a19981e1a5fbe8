use Rattle.std.proofs.Common.{subst}
use Rattle.journal_model.specs.Legal.{at_first}
use Rattle.journal_model.specs.declared.state.Judged.{Judged}
use Rattle.journal_model.proofs.Folds.{says, Says, broken_at}
use Rattle.journal_model.proofs.laws.verdicts_are_right.Goals as goal

pub returns-clause-legal : goal.returns-clause-legal
returns-clause-legal c = λ sizes events found h.
    let P : Judged → Type 0 = Says sizes (at_first sizes) 0 events in
    subst P h (says sizes (at_first sizes) 0 events)

pub returns-clause-broken : goal.returns-clause-broken
returns-clause-broken c = λ sizes events at h.
    let P : Judged → Type 0 = Says sizes (at_first sizes) 0 events in
    let b = broken_at sizes events at (subst P h (says sizes (at_first sizes) 0 events)) in
    (b.state, b.place, b.reached, b.refused, b.owed)
