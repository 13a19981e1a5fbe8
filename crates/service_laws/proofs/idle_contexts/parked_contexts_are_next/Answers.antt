use Rattle.service_laws.proofs.Parking.{answered_context, parked_is, parked_is_next, first_is_next}
use Rattle.service_laws.proofs.idle_contexts.parked_contexts_are_next.Goals as goal

pub returns-clause-answered : goal.returns-clause-answered
returns-clause-answered c = answered_context

pub returns-clause-parked : goal.returns-clause-parked
returns-clause-parked c = parked_is

pub returns-clause-next : goal.returns-clause-next
returns-clause-next c = parked_is_next

pub returns-clause-first : goal.returns-clause-first
returns-clause-first c = first_is_next
