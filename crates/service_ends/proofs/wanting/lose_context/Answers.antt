use Rattle.std.proofs.Common.{ℕ, subst}
use Rattle.service_ends.proofs.Closes.{context_is}
use Rattle.service_laws.specs.Serving.{IsServing}
use Rattle.service_ends.proofs.wanting.lose_context.Goals as goal

pub give_up-requires-clause-serving : goal.give_up-requires-clause-serving
give_up-requires-clause-serving g c κs within = (
  c.requires.held.state,
  subst (λ (d : ℕ). IsServing c.args.book.now.state c.args.origin.i d c.requires.held.state)
      (context_is c.args.origin c.args.context.id c.args.book.now
      c.is_sound.ensures.held.log.reached c.requires.held) c.requires.held.serving,
)
