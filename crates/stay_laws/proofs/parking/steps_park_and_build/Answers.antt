use Rattle.stay_laws.proofs.Parks.{parks_parked, parks_over, parks_others, takes, took_none}
use Rattle.stay_laws.proofs.Parks.{took_rightly, took_both}
use Rattle.stay_laws.proofs.parking.steps_park_and_build.Goals as goal

pub returns-clause-parked : goal.returns-clause-parked
returns-clause-parked c = parks_parked

pub returns-clause-over : goal.returns-clause-over
returns-clause-over c = parks_over

pub returns-clause-others : goal.returns-clause-others
returns-clause-others c = parks_others

pub returns-clause-taking : goal.returns-clause-taking
returns-clause-taking c = takes

pub returns-clause-none_took : goal.returns-clause-none_took
returns-clause-none_took c = took_none

pub returns-clause-took_right : goal.returns-clause-took_right
returns-clause-took_right c = took_rightly

pub returns-clause-took_joined : goal.returns-clause-took_joined
returns-clause-took_joined c = took_both
