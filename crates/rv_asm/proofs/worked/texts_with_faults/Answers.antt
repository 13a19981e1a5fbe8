use Rattle.std.proofs.Common.{refl}
use Rattle.rv_asm.proofs.worked.texts_with_faults.Goals as goal

pub returns-clause-names : goal.returns-clause-names
returns-clause-names c = refl

pub returns-clause-shapes : goal.returns-clause-shapes
returns-clause-shapes c = refl

pub returns-clause-numbers : goal.returns-clause-numbers
returns-clause-numbers c = refl

pub returns-clause-ranges : goal.returns-clause-ranges
returns-clause-ranges c = refl

pub returns-clause-labels : goal.returns-clause-labels
returns-clause-labels c = refl

pub returns-clause-images : goal.returns-clause-images
returns-clause-images c = refl
