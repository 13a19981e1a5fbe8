use Rattle.service_laws.proofs.Staying.{serving_stays, function_stays}
use Rattle.service_laws.proofs.services.others_leave_a_service.Goals as goal

pub returns-clause-serves : goal.returns-clause-serves
returns-clause-serves c = serving_stays

pub returns-clause-function : goal.returns-clause-function
returns-clause-function c = function_stays
