use Rattle.std.proofs.Common.{refl, sym, arith}
use Rattle.machine_model.specs.Machine.{address}
use Rattle.plain_space.specs.Use.{allows}
use Rattle.plain_space.proofs.Pieces.{least_failing-none}
use Rattle.plain_space.proofs.Flats.{least_step}
use Rattle.plain_space.proofs.pages.Pages.least_failing.Goals as goal

pub parts-init : goal.parts-init
parts-init c = record { least = sym (least_failing-none _ c.args.at); most = omega arith }

pub parts-preserved : goal.parts-preserved
parts-preserved c = record {
  least = least_step (allows c.args.way) c.args.self.now.regions.items c.args.at c.parts.done
      c.part_of-part.result (address c.args.at c.parts.done) c.parts.least
      c.failing-failed.result _ refl c.part_of-part.ensures.some c.part_of-part.ensures.within
      c.parts.invariant.least c.failing-failed.ensures c.lesser-next.ensures;
  most = omega (arith, c.part_of-part.ensures.most);
}
