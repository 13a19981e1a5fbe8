use Rattle.std.proofs.Common.{sym, ap, ◌∙◌}
use Rattle.image_model.specs.Valid.{is_valid}
use Rattle.asm_program.specs.Held.{reading_of}
use Rattle.rv_asm.proofs.Meaning.{valid_one}
use Rattle.rv_asm.proofs.assembler.file_of_image.Goals as goal

pub write_image-requires : goal.write_image-requires
write_image-requires c =
    let one = valid_one (reading_of c.args.reading.now) c.in-Some.image
    (sym c.in-Some.is ∙ c.in_ok-image.ensures) in
    ap is_valid one.1 ∙ one.0
