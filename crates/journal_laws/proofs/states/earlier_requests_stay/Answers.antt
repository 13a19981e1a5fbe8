use Rattle.journal_laws.proofs.Early.{earlier_stays}
use Rattle.journal_laws.proofs.states.earlier_requests_stay.Goals as goal

pub returns : goal.returns
returns c = earlier_stays
