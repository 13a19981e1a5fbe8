use Rattle.std.proofs.Common.{ap}
use Rattle.std.specs.Prelude.{is_none}
use Rattle.space_api.specs.Holding.{Holding}
use Rattle.space_api.specs.Stores.{Frozen}
use Rattle.book_core_tests.proofs.Images.{of_within, one_opened}
use Rattle.book_core_tests.proofs.opening.opened.Goals as goal

pub invariant_of-result : goal.invariant_of-result
invariant_of-result g c =
    let w = of_within _ _ c.args.start c.requires.within c.in_ok-frozen.ensures.memory in record {
      image = ap (λ (f : Frozen). f.image) w.1;
      loose = ap (λ (h : Holding). is_none h.pin) c.in_ok-frozen.ensures.holds;
    }

pub returns-clause-shelf : goal.returns-clause-shelf
returns-clause-shelf g c =
    let w = of_within _ _ c.args.start c.requires.within c.in_ok-frozen.ensures.opened in
    one_opened _ _ _ _ w.1
