use Rattle.journal_model.proofs.Apart.{apart_distinct}
use Rattle.journal_laws.proofs.Stacks.{rising_distinct}
use Rattle.journal_laws.proofs.layers.rising_stacks_are_sized.Goals as goal

pub returns : goal.returns
returns c = λ sizes room rising. record {
  room = room;
  distinct = λ k d l. apart_distinct _ (rising_distinct _ (rising k d l));
}
