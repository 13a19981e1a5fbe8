use Rattle.std.proofs.Common.{refl, sym, ◌∙◌}
use Rattle.instruction_model.proofs.word_laws.one_word.Goals as goal

pub returns-clause-has : goal.returns-clause-has
returns-clause-has c = λ v sound. (sound, refl)

pub returns-clause-only : goal.returns-clause-only
returns-clause-only c = λ v w u p q. p.1 ∙ sym q.1
