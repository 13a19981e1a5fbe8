use Rattle.service_laws.proofs.Counting.{served_count}
use Rattle.service_laws.proofs.Giving.{taken_served, deployed_served}
use Rattle.service_laws.proofs.Parking.{answered_served}
use Rattle.service_laws.proofs.Staying.{served_stays}
use Rattle.service_laws.proofs.services.served_requests_are_counted.Goals as goal

pub returns-clause-count : goal.returns-clause-count
returns-clause-count c = served_count

pub returns-clause-taken : goal.returns-clause-taken
returns-clause-taken c = taken_served

pub returns-clause-deployed : goal.returns-clause-deployed
returns-clause-deployed c = deployed_served

pub returns-clause-stays : goal.returns-clause-stays
returns-clause-stays c = served_stays

pub returns-clause-answered : goal.returns-clause-answered
returns-clause-answered c = answered_served
