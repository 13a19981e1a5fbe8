use Rattle.std.proofs.Common.{Some, None, ap, ◌∙◌}
use Rattle.rv_asm.specs.Disassembly.{line_of}
use Rattle.instruction_model.specs.Reading.{reading}
use Rattle.rv_asm.proofs.Reading.{one_decoding}
use Rattle.rv_asm.proofs.line.word_line.Goals as goal

pub returns-in-Some : goal.returns-in-Some
returns-in-Some c =
    c.instruction_line.ensures
    ∙ ap (λ o. line_of o c.args.w)
    (one_decoding c.args.w (Some c.in-Some.inst) (reading c.args.w) c.in-Some.ensures.decodes
    c.in-Some.ensures.only (c.every_word.ensures c.args.w c.ranges.w.fits))

pub returns-in-None : goal.returns-in-None
returns-in-None c =
    ap (λ o. line_of o c.args.w)
    (one_decoding c.args.w None (reading c.args.w) c.in-None.ensures.decodes
    c.in-None.ensures.only (c.every_word.ensures c.args.w c.ranges.w.fits))
