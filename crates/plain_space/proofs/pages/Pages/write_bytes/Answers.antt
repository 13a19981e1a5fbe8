use Rattle.std.proofs.Common.{take, drop, refl, sym, ap, arith}
use Rattle.plain_space.specs.Space.{flat_in}
use Rattle.plain_space.proofs.Flats.{write_step, after_store-none}
use Rattle.plain_space.proofs.pages.Pages.write_bytes.Goals as goal

pub parts-init : goal.parts-init
parts-init c = record {
  sound = c.requires.sound;
  flat = sym (after_store-none (flat_in c.args.self.now) c.args.at);
  there = c.requires.there;
  most = omega arith;
}

pub parts-preserved : goal.parts-preserved
parts-preserved c =
    let done = c.parts.done in
    let part = c.part_of-part.result in
    let bytes = c.args.bytes.now in
    let most = c.part_of-part.ensures.most in
    record {
      sound = c.write_part.ensures.sound;
      flat = write_step (flat_in c.args.self.now) c.args.at done part _ bytes _
          (flat_in c.parts.self) (flat_in c.write_part.new.self) (omega arith) (omega arith) refl
          (omega (arith, most, c.parts-test.true))
          (ap (λ k. take k (drop done bytes)) (omega arith)) c.parts.invariant.flat
          c.write_part.ensures.flat;
      there = λ i lt. c.write_part.ensures.kept _ (c.parts.invariant.there i lt);
      most = omega (arith, most, c.parts-test.true);
    }
