use Rattle.std.proofs.Common.{◌≡◌, ◌+◌, ◌-◌, length, take, drop, refl, sym, ap, ◌∙◌, arith}
use Rattle.std.proofs.lemmas.List.{length-take-le, length-drop}
use Rattle.std.proofs.lemmas.Slice.{take-put_mid}
use Rattle.machine_model.specs.Machine.{address, bytes_at}
use Rattle.machine_model.proofs.Ranges.{length-bytes_at}
use Rattle.plain_space.specs.Space.{flat_in}
use Rattle.plain_space.proofs.Pieces.{bytes_at-none}
use Rattle.plain_space.proofs.Flats.{read_step}
use Rattle.plain_space.proofs.pages.Pages.read_bytes.Goals as goal

pub parts-init : goal.parts-init
parts-init c = record { filled = sym (bytes_at-none _ c.args.at); most = omega arith }

pub parts-preserved : goal.parts-preserved
parts-preserved c =
    let done = c.parts.done in
    let part = c.part_of-part.result in
    let buf = c.parts.buf in
    let new = c.read_part.new.buf in
    let memory = (flat_in c.args.self.now).memory in
    let here = address c.args.at done in
    let same = c.parts.auto.buf in
    let most = c.part_of-part.ensures.most in
    let rest = length-drop done buf in
    let old : length (take (done + part - done) (drop done buf)) ≡ part =
    length-take-le (done + part - done) (drop done buf)
    (omega (arith, rest, same, most, c.parts-test.true)) ∙ omega arith in
    let is : new ≡ bytes_at memory here part =
    c.read_part.ensures ∙ ap (bytes_at memory here) old in
    let len = ap length is ∙ length-bytes_at memory here part in
    record {
      filled = take-put_mid done (done + part - done) buf new (done + part)
          (omega (arith, len)) (omega (arith, same, c.parts.invariant.most))
          ∙ read_step memory c.args.at done part here (take done buf) new refl
          c.parts.invariant.filled is;
      most = omega (arith, same, most, c.parts-test.true);
    }
