use Rattle.std.proofs.Common.{◌∙◌}
use Rattle.context_uc_tests.proofs.Pins.{untaken}
use Rattle.context_uc_tests.proofs.tests.pins.tells_pinned.Goals as goal

pub returns : goal.returns
returns g c =
    (untaken _ _ _ c.requires c.unpin_in.ensures.unpinned).0
    ∙ (untaken _ _ _ c.requires c.pin_in.ensures.pinned).0
