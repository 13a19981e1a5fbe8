use Rattle.std.proofs.Common.{refl}
use Rattle.frame_steps_tests.proofs.Worked as worked
use Rattle.frame_steps_tests.proofs.tests.entries.pointers.Goals as goal

pub returns-clause-private : goal.returns-clause-private
returns-clause-private c = (worked.private_pointer, refl, refl)

pub returns-clause-shared : goal.returns-clause-shared
returns-clause-shared c = (worked.shared_pointer, refl, refl)

pub returns-clause-leaf : goal.returns-clause-leaf
returns-clause-leaf c = worked.leaf_above
