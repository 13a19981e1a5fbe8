use Rattle.journal_model.proofs.Apart.{distinct_apart}
use Rattle.journal_laws.proofs.Stacks.{above_at, above_once, one_place}
use Rattle.journal_laws.proofs.layers.layers_stand_above_one_place.Goals as goal

pub returns-clause-next : goal.returns-clause-next
returns-clause-next c = λ stack at a d h. above_at stack at a (distinct_apart stack d) h

pub returns-clause-once : goal.returns-clause-once
returns-clause-once c = λ stack p q k d h m. above_once stack p q k (distinct_apart stack d) h m

pub returns-clause-place : goal.returns-clause-place
returns-clause-place c = λ stack i j a d h k. one_place stack i j a (distinct_apart stack d) h k
