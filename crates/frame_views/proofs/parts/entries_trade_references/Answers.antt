use Rattle.frame_views.proofs.Entered.{entered_loose}
use Rattle.frame_views.proofs.NewParts.{new_entry, no_entry, other_entry}
use Rattle.frame_views.proofs.parts.entries_trade_references.Goals as goal

pub returns-clause-new : goal.returns-clause-new
returns-clause-new c = new_entry

pub returns-clause-old : goal.returns-clause-old
returns-clause-old c = no_entry

pub returns-clause-both : goal.returns-clause-both
returns-clause-both c = other_entry

pub returns-clause-loose : goal.returns-clause-loose
returns-clause-loose c = entered_loose
