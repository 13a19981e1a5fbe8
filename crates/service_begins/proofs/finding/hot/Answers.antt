use Rattle.std.proofs.Common.{refl}
use Rattle.service_begins.proofs.finding.hot.Goals as goal

pub returns : goal.returns
returns g c = rw (c.id.ensures, c.served.ensures) refl
