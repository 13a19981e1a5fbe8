use Rattle.service_laws.proofs.Giving.{taken_serves, taken_is_for, taken_function}
use Rattle.service_laws.proofs.Giving.{deployed_serves, deployed_function}
use Rattle.service_laws.proofs.Staying.{serving_answers}
use Rattle.service_laws.proofs.services.contexts_serve_what_they_are_given.Goals as goal

pub returns-clause-taken : goal.returns-clause-taken
returns-clause-taken c = λ sizes s d i t x h e. (
  taken_serves sizes s d i t x h e,
  taken_is_for sizes s d i t x h e,
  taken_function sizes s d i t h,
)

pub returns-clause-deployed : goal.returns-clause-deployed
returns-clause-deployed c = λ sizes s d k i n t h.
    (deployed_serves sizes s d k i n t h, deployed_function sizes s d k i n t h)

pub returns-clause-answers : goal.returns-clause-answers
returns-clause-answers c = serving_answers
