use Rattle.journal_model.specs.Legal.{at_first}
use Rattle.journal_model.proofs.Folds.{parted}
use Rattle.journal_model.proofs.laws.beginnings_are_legal.Goals as goal

pub returns : goal.returns
returns c = λ sizes a b l.
    let p = parted sizes (at_first sizes) a b l.end l.reached in (
      p.between,
      p.first,
      λ h. record { end = p.between; reached = p.first; nothing_owed = h },
    )
