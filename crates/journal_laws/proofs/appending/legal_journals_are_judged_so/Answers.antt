use Rattle.std.proofs.Common.{◌∙◌, ap, subst}
use Rattle.journal_model.specs.Legal.{at_first}
use Rattle.journal_model.specs.declared.state.Judged.{Judged}
use Rattle.journal_model.specs.declared.state.Judged.TheVariants.{Legal}
use Rattle.journal_model.proofs.Folds.{says, Says}
use Rattle.journal_laws.proofs.Folding.{verdict_legal}
use Rattle.journal_laws.proofs.appending.legal_journals_are_judged_so.Goals as goal

pub returns : goal.returns
returns c = λ sizes events found. (
  λ h. (let P : Judged → Type 0 = Says sizes (at_first sizes) 0 events in
      let k = subst P h (says sizes (at_first sizes) 0 events) in
      (record { end = k.0; reached = k.1; nothing_owed = k.2 }, k.3)),
  λ k. verdict_legal sizes (at_first sizes) k.0.end 0 events k.0.reached k.0.nothing_owed
      ∙ ap (λ t. Legal t) k.1,
)
