use Rattle.line_laws.proofs.Shown.{reply_is_shown}
use Rattle.line_laws.proofs.showing.replies_are_shown.Goals as goal

pub returns : goal.returns
returns g c = reply_is_shown
