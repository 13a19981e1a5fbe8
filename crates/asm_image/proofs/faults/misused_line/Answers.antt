use Rattle.std.proofs.Common.{◌+◌, sym, ap, ◌∙◌, arith, drop}
use Rattle.asm_image.specs.Misuse.{is_misused}
use Rattle.asm_image.proofs.Lines.{line_in, part_more}
use Rattle.asm_lines.specs.Statement.{or_else}
use Rattle.asm_program.specs.Held.{labels_of}
use Rattle.asm_image.proofs.faults.misused_line.Goals as goal

pub returns-in-Some : goal.returns-in-Some
returns-in-Some c =
    let test = is_misused c.args.misuse (labels_of c.args.labels.now) in
    let i = c.loop-part.part-index in
    ap (λ o. or_else o (line_in test (drop (i + 1) c.args.parts.now))) c.in-Some.ensures
    ∙ sym (part_more test c.args.parts.now i c.part-item.result c.part-item.is (omega arith))
    ∙ c.loop-part.invariant

pub loop-part-preserved : goal.loop-part-preserved
loop-part-preserved c =
    let test = is_misused c.args.misuse (labels_of c.args.labels.now) in
    let i = c.loop-part.part-index in
    ap (λ o. or_else o (line_in test (drop (i + 1) c.args.parts.now))) c.in-None.ensures
    ∙ sym (part_more test c.args.parts.now i c.part-item.result c.part-item.is (omega arith))
    ∙ c.loop-part.invariant
