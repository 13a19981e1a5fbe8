use Rattle.service_laws.proofs.Ending.{serving_ends, wanted_ends, refused_ends}
use Rattle.service_laws.proofs.services.services_end.Goals as goal

pub returns-clause-answered : goal.returns-clause-answered
returns-clause-answered c = serving_ends

pub returns-clause-wanted : goal.returns-clause-wanted
returns-clause-wanted c = wanted_ends

pub returns-clause-refused : goal.returns-clause-refused
returns-clause-refused c = refused_ends
