use Rattle.std.proofs.Common.{◌≡◌, ◌+◌, ◌<◌, IfOk, ap, sym, ◌∙◌, length, arith, subst}
use Rattle.std.proofs.lemmas.Bool.Decides.{nat_tests}
use Rattle.asm_program.specs.Held.{program_of, reading_of}
use Rattle.asm_program.specs.Reading.{Reading}
use Rattle.asm_program.proofs.Lines.{shorter}
use Rattle.asm_program.proofs.Steps.{has_first, goes_on, stops}
use Rattle.asm_program.proofs.reading.read.Goals as goal

pub returns-in-Some-clause-value : goal.returns-in-Some-clause-value
returns-in-Some-clause-value c =
    let some : 0 < length c.lines.rest.now = grind (arith, nat_tests) in
    let parted = has_first c.lines.rest.now c.split_line.result.0.now c.split_line.result.1.now some
    c.split_line.ensures.line c.split_line.ensures.behind in
    let same = c.lines.invariant.same
    ∙ stops (program_of c.lines.program) (program_of c.add_line.new.self) (c.lines.count + 1)
    c.in-Some.kind c.lines.rest.now c.split_line.result.0.now c.split_line.result.1.now
    parted (rw c.in-Some.is at c.in_ok-kind.ensures) in
    subst (λ (r : Reading). IfOk c.finish.result (λ f. reading_of f ≡ r)) (sym same)
    c.finish.ensures.value

pub lines-preserved : goal.lines-preserved
lines-preserved c =
    let some : 0 < length c.lines.rest.now = grind (arith, nat_tests) in
    let parted = has_first c.lines.rest.now c.split_line.result.0.now c.split_line.result.1.now some
    c.split_line.ensures.line c.split_line.ensures.behind in
    let counted = ap length parted in
    let less = shorter c.lines.rest.now some in
    let behind = ap length c.split_line.ensures.behind in
    record {
      same = c.lines.invariant.same
          ∙ goes_on (program_of c.lines.program) (program_of c.add_line.new.self) (c.lines.count + 1)
          c.lines.rest.now c.split_line.result.0.now c.split_line.result.1.now
          parted (rw c.in-None.is at c.in_ok-kind.ensures);
      counted = omega (arith, counted);
      few = omega (arith, less, behind);
    }
