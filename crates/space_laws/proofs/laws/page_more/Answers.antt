use Rattle.std.proofs.Common.{refl}
use Rattle.space_laws.specs.Growth.{with_page}
use Rattle.space_laws.proofs.Spans.{frames-more, frames-same, page-there}
use Rattle.space_laws.proofs.laws.page_more.Goals as goal

pub returns-clause-new : goal.returns-clause-new
returns-clause-new c = λ written page lt.
    frames-more written (with_page page written) page lt (λ p. refl)

pub returns-clause-there : goal.returns-clause-there
returns-clause-there c = λ written page e.
    frames-same written (with_page page written) (page-there written page e)
