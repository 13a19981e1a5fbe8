use Rattle.std.proofs.Common.{refl}
use Rattle.frame_steps_tests.proofs.Worked as worked
use Rattle.frame_steps_tests.proofs.tests.entries.leaf_entries.Goals as goal

pub returns-clause-private : goal.returns-clause-private
returns-clause-private c = (worked.private_leaf, refl, refl)

pub returns-clause-shared : goal.returns-clause-shared
returns-clause-shared c = (worked.shared_leaf, refl, refl)

pub returns-clause-written_shared : goal.returns-clause-written_shared
returns-clause-written_shared c = worked.written_shared

pub returns-clause-nothing : goal.returns-clause-nothing
returns-clause-nothing c = worked.nothing

pub returns-clause-pointer : goal.returns-clause-pointer
returns-clause-pointer c = worked.pointer_in_leaf
