use Rattle.frame_model.proofs.Covers.{lone_owns, lone_has}
use Rattle.frame_model.proofs.rule_laws.lone_owners_have_what_no_other_reaches.Goals as goal

pub returns-clause-own : goal.returns-clause-own
returns-clause-own c = lone_owns

pub returns-clause-rest : goal.returns-clause-rest
returns-clause-rest c = lone_has
