use Rattle.service_laws.proofs.Building.{serving_builds, built_keep_serves, built_dup_serves}
use Rattle.service_laws.proofs.Building.{built_drop_serves}
use Rattle.service_laws.proofs.Looking.{above_so}
use Rattle.service_laws.proofs.services.layers_leave_a_service.Goals as goal

pub returns-clause-may : goal.returns-clause-may
returns-clause-may c = serving_builds

pub returns-clause-kept : goal.returns-clause-kept
returns-clause-kept c = built_keep_serves

pub returns-clause-twice : goal.returns-clause-twice
returns-clause-twice c = built_dup_serves

pub returns-clause-dropped : goal.returns-clause-dropped
returns-clause-dropped c = built_drop_serves

pub returns-clause-above : goal.returns-clause-above
returns-clause-above c = above_so
