use Rattle.plain_space.proofs.Flats.{some_fails}
use Rattle.plain_space.proofs.pages.Pages.read_into.Goals as goal

pub returns-in-Some-clause-empty : goal.returns-in-Some-clause-empty
returns-in-Some-clause-empty c = λ e. absurd (some_fails _ _ _ _ c.in-Some.ensures e)
