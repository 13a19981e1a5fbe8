use Rattle.space_laws.proofs.Counts.{count-grows}
use Rattle.space_laws.proofs.laws.few_more.Goals as goal

pub returns : goal.returns
returns c = count-grows
