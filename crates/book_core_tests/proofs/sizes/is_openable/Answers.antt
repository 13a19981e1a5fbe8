use Rattle.std.proofs.Common.{ap, ◌∙◌}
use Rattle.journal_model.specs.Extents.{Extents}
use Rattle.book_core_tests.proofs.Fitting.{openable}
use Rattle.book_core_tests.proofs.sizes.is_openable.Goals as goal

pub returns : goal.returns
returns c = λ t. openable c.args.sizes.now c.as_slice.result.now c.args.images
    (c.as_slice.ensures.value ∙ ap (λ (e : Extents). e.stacks) c.sizes.view_is)
    (c.are_few-few.ensures c.if-not-few.false) (c.are_fit.ensures t)
