use Rattle.journal_laws.proofs.Naming.{closed_unnamed, closed_always}
use Rattle.journal_laws.proofs.names.closed_requests_stay.Goals as goal

pub returns-clause-unnamed : goal.returns-clause-unnamed
returns-clause-unnamed c = closed_unnamed

pub returns-clause-stays : goal.returns-clause-stays
returns-clause-stays c = closed_always
