use Rattle.std.proofs.Common.{refl}
use Rattle.rv_asm.proofs.worked.texts_with_images.Goals as goal

pub returns-clause-echo : goal.returns-clause-echo
returns-clause-echo c = refl

pub returns-clause-count : goal.returns-clause-count
returns-clause-count c = refl

pub returns-clause-edges : goal.returns-clause-edges
returns-clause-edges c = refl
