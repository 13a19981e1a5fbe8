use Rattle.batch_laws.proofs.Others.{closed_still, closed_waits, gone_still, gone_waits}
use Rattle.batch_laws.proofs.Others.{started_still, started_waits, waits_open, way_open}
use Rattle.batch_laws.proofs.staying.services_stay_under_way.Goals as goal

pub returns-clause-gone : goal.returns-clause-gone
returns-clause-gone g c = gone_still

pub returns-clause-closed : goal.returns-clause-closed
returns-clause-closed g c = closed_still

pub returns-clause-started : goal.returns-clause-started
returns-clause-started g c = started_still

pub returns-clause-under_way : goal.returns-clause-under_way
returns-clause-under_way g c = way_open

pub returns-clause-waits_gone : goal.returns-clause-waits_gone
returns-clause-waits_gone g c = gone_waits

pub returns-clause-waits_closed : goal.returns-clause-waits_closed
returns-clause-waits_closed g c = closed_waits

pub returns-clause-waits_started : goal.returns-clause-waits_started
returns-clause-waits_started g c = started_waits

pub returns-clause-waits : goal.returns-clause-waits
returns-clause-waits g c = waits_open
